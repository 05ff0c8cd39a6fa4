-- A letter in any parts, with any rooms: what a row of feeds leaves behind and comes to. Assumes nothing: these are definitions.
use Rattle.std.specs.Prelude.{List, [], ◌∷◌, ◌++◌, ◌≡◌, ℕ, ◌+◌, ◌*◌, ◌≤◌, length, take}
use Rattle.meaning.specs.Books.{Book}
use Rattle.meaning.specs.Reports.{reports}
use Rattle.meaning.specs.Automaton.{steps}
use Rattle.meaning.specs.Calls.{reports_after, steps_after}
use Rattle.tracking.specs.Reports.{in_room}
use Rattle.scanner.specs.Answers.{Said, said}
use Rattle.scanner.specs.Exact.{FeedEnd, feed_of}
use Rattle.scanner.specs.Meant.{RunningOf}

-- What a call of feed is lent beside the two memories.
pub record Call : Type 0 where
  pub part : List ℕ
  pub room : List ℕ

-- What calls come to: the memory, the bytes taken, the numbers that the reports are written in, and the steps added up.
pub record Came : Type 0 where
  pub memory : List ℕ
  pub read : List ℕ
  pub written : List ℕ
  pub steps : ℕ

-- One call after the other, with the same tables, each with the memory that the one before it left.
unfoldable pub feeds_of : List ℕ → List ℕ → List Call → Came
feeds_of t m [] = record { memory = m; read = []; written = []; steps = 0 }
feeds_of t m (call ∷ rest) =
    let end : FeedEnd = feed_of t m call.part call.room in
    let says : Said = said end.answer in
    let later : Came = feeds_of t end.memory rest in
    record {
      memory = later.memory;
      read = take says.taken call.part ++ later.read;
      written = take (2 * says.reports) end.room ++ later.written;
      steps = says.steps + later.steps;
    }

-- What calls come to is right, after the bytes x: the memory is the book's after x and all bytes taken; the reports written, joined, are those that
-- end in the bytes taken; and so with the steps.
pub record GoesOn (book : Book) (x : List ℕ) (came : Came) : Type 0 where
  pub memory : RunningOf book (x ++ came.read) came.memory
  pub reports : came.written ≡ in_room (reports_after book x came.read)
  pub steps : came.steps ≡ steps_after book x came.read

-- From the letter's start: the reports and the steps are those of the bytes taken, however the letter was cut, and there are at most as many
-- steps as bytes.
pub record LetterRead (book : Book) (came : Came) : Type 0 where
  pub memory : RunningOf book came.read came.memory
  pub reports_joined : came.written ≡ in_room (reports book came.read)
  pub steps_added : came.steps ≡ steps book came.read
  pub steps_at_most : came.steps ≤ length came.read
