-- The reports of a place, read back from the room, and what the tables say of their order. Assumes nothing: these are definitions.
use Rattle.std.specs.Prelude.{◌≡◌, true, List, [], ◌∷◌, ℕ, zero, suc, ◌+◌, ◌-◌, ◌*◌, ◌<◌, get_or}
use Rattle.meaning.specs.Reports.{Report}
use Rattle.tables.specs.Reads.{phrase_count_in, phrase_number_in}
use Rattle.marks.specs.Marked.{is_marked}
use Rattle.marks.specs.Reported.{Reports, reported}
use Rattle.marks.specs.declared.Marks.{Marks}

-- In a room the n reports from the one with index i on: each is two numbers, its phrase number and its place.
unfoldable pub reports_in : List ℕ → ℕ → ℕ → List Report
reports_in room i zero = []
reports_in room i (suc n) = record { number = get_or room (2 * i) 0; place = get_or room (2 * i + 1) 0 } ∷ reports_in room (i + 1) n

-- The reports of a place, once they are written: those that stand in the room behind the ones written before.
unfoldable pub reports_put : List ℕ → ℕ → Marks → Reports → List Report
unfolding reports_in
reports_put t place marks reports =
    let after : Reports = reported t place marks reports in
    reports_in after.room reports.written (after.written - reports.written)

-- The report of the phrase of rank j at a place.
abbrev pub rank_report : List ℕ → ℕ → ℕ → Report
rank_report t place j = record { number = phrase_number_in t j; place = place }

-- A report is that of a marked phrase at a place.
pub record OfMarked (t : List ℕ) (place : ℕ) (marks : Marks) (report : Report) : Type 0 where
  pub rank : ℕ
  pub inside : rank < phrase_count_in t
  pub marked : is_marked marks rank ≡ true
  pub is : report ≡ rank_report t place rank

-- The phrase numbers ascend with the rank.
abbrev pub NumbersAscend : List ℕ → Type 0
NumbersAscend t = (i j : ℕ) → i < j → j < phrase_count_in t → phrase_number_in t i < phrase_number_in t j
