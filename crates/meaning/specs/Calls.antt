-- A letter in parts: which bytes a call takes, what it reports and counts, and what a row of calls comes to.
-- Assumes nothing: these are definitions.
use Rattle.std.specs.Prelude.{◌≡◌, ◌⊎◌, cond, List, [], ◌∷◌, ◌++◌, ℕ, suc, ◌+◌, ◌-◌, ◌≤◌, ◌<◌, leb, length, take}
use Rattle.meaning.specs.Books.{Book}
use Rattle.meaning.specs.Reports.{Report, reports_at}
use Rattle.meaning.specs.Automaton.{is_state, after, steps_for}

-- The largest place: a letter has at most so many bytes.
abbrev pub largest_place : ℕ
largest_place = 4294967295

-- The reports that end in the bytes y, when they are read after the bytes x.
unfoldable pub reports_after : Book → List ℕ → List ℕ → List Report
unfolding reports_at
reports_after book x [] = []
reports_after book x (a ∷ y) = reports_at book (x ++ a ∷ []) (suc (length x)) ++ reports_after book (x ++ a ∷ []) y

-- The failure steps for the bytes y, when they are read after the bytes x.
unfoldable pub steps_after : Book → List ℕ → List ℕ → ℕ
unfolding is_state after steps_for
steps_after book x [] = 0
steps_after book x (a ∷ y) = steps_for (is_state book) (after (is_state book) x) a + steps_after book (x ++ a ∷ []) y

-- The room that is left once the bytes y have been read after the bytes x, where there was room for so many reports.
unfoldable pub free_room : Book → List ℕ → List ℕ → ℕ → ℕ
unfolding reports_after
free_room book x y room = room - length (reports_after book x y)

-- The taking rule: bytes are taken one by one while any remain and the free room is at least the number of phrases.
-- So many bytes of a part are taken, after the bytes x, with room for so many reports: each of them finds enough free room,
-- and the taking stops because no byte remains or the free room is too small.
pub record Takes (book : Book) (x part : List ℕ) (room taken : ℕ) : Type 0 where
  pub offered : taken ≤ length part
  pub enough : (k : ℕ) → k < taken → length book.phrases ≤ free_room book x (take k part) room
  pub stops : (taken ≡ length part) ⊎ (free_room book x (take taken part) room < length book.phrases)

-- The same as a count.
unfoldable pub takes : Book → List ℕ → List ℕ → ℕ → ℕ
unfolding reports_at
takes book x [] room = 0
takes book x (a ∷ y) room =
    let left : ℕ = room - length (reports_at book (x ++ a ∷ []) (suc (length x))) in
    let more : ℕ = suc (takes book (x ++ a ∷ []) y left) in
    cond (leb (length book.phrases) room) more 0

-- What a call answers: the bytes taken, the reports written, the failure steps.
pub record Fed : Type 0 where
  pub taken : ℕ
  pub hits : List Report
  pub steps : ℕ

unfoldable pub fed : Book → List ℕ → List ℕ → ℕ → Fed
unfolding takes reports_after steps_after
fed book x part room =
    let n : ℕ = takes book x part room in
    record { taken = n; hits = reports_after book x (take n part); steps = steps_after book x (take n part) }

-- A call is offered a part of the letter and room for so many reports.
pub record Call : Type 0 where
  pub part : List ℕ
  pub room : ℕ

-- What calls come to, one after the other: the bytes taken so far, the reports joined, the steps added up.
pub record Joined : Type 0 where
  pub read : List ℕ
  pub hits : List Report
  pub steps : ℕ

unfoldable pub joined : Book → List ℕ → List Call → Joined
unfolding fed
joined book x [] = record { read = x; hits = []; steps = 0 }
joined book x (call ∷ rest) =
    let now : Fed = fed book x call.part call.room in
    let later : Joined = joined book (x ++ take now.taken call.part) rest in
    record { read = later.read; hits = now.hits ++ later.hits; steps = now.steps + later.steps }
