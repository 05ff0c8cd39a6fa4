-- What it is for taken bytes to be right: the book's state, place, windows, reports and steps. Assumes nothing: these are definitions.
use Rattle.std.specs.Prelude.{◌≡◌, List, ◌++◌, ℕ, ◌+◌, ◌≤◌, length, take, get_or}
use Rattle.lent.specs.Numbers.{Bytes}
use Rattle.meaning.specs.Books.{Book}
use Rattle.meaning.specs.Automaton.{is_state, after, depth}
use Rattle.meaning.specs.Calls.{reports_after, steps_after}
use Rattle.numbering.specs.States.{number_in}
use Rattle.running.specs.Reads.{WholeRunning}
use Rattle.running.specs.Held.{Windows}
use Rattle.window.specs.Places.{Elsewhere}
use Rattle.tracking.specs.Reports.{with_these}
use Rattle.feeding.specs.Taken.{Run}

-- A run stands after the bytes x of a letter: its state and place are those of x, and the windows are the book's after x.
pub record Stands (book : Book) (x : List ℕ) (room : ℕ) (run : Run) : Type 0 where
  pub state : run.state ≡ number_in book (after (is_state book) x)
  pub place : run.place ≡ length x
  pub whole : WholeRunning run.here.memory
  pub bytes : Bytes run.here.memory
  pub windows : Windows book x run.here.memory
  pub few : run.here.reports.written ≤ room

-- From one run, after the bytes x, to another with the first bytes of a part more: their reports stand behind those of before, their
-- failure steps are paid for by what the bytes bring and the depth that is given up, less the gains, and of the memory nothing but
-- windows is changed.
pub record Came (book : Book) (x part : List ℕ) (room count : ℕ) (from to : Run) : Type 0 where
  pub stands : Stands book (x ++ take count part) room to
  pub taken : to.taken ≡ from.taken + count
  pub steps : steps_after book x (take count part) + to.gains + depth (is_state book) (after (is_state book) (x ++ take count part))
      ≡ from.gains + count + depth (is_state book) (after (is_state book) x)
  pub reports : to.here.reports ≡ with_these (reports_after book x (take count part)) from.here.reports
  pub elsewhere : (i : ℕ) → Elsewhere i → get_or to.here.memory i 0 ≡ get_or from.here.memory i 0
  pub long : length to.here.memory ≡ length from.here.memory
