-- What table memory holds of a book's automaton: the entries of its states, as the layout of the tables has them.
-- Assumes nothing: these are definitions.
use Rattle.std.specs.Prelude.{◌≡◌, List, ℕ, ◌≤◌, ◌<◌}
use Rattle.meaning.specs.Books.{Book}
use Rattle.numbering.specs.States.{state_count, first_child, failure_in}
use Rattle.tables.specs.Layout.{label_of}
use Rattle.tables.specs.Reads.{label_in, fail_in, first_child_in}

-- The label of each state, its first child, and where the children of the last one end.
pub record HoldsStates (book : Book) (t : List ℕ) : Type 0 where
  pub labels : (i : ℕ) → i < state_count book → label_in t i ≡ label_of book i
  pub children : (i : ℕ) → i ≤ state_count book → first_child_in t i ≡ first_child book i

-- The failure of each state below a number.
unfoldable pub HoldsFailures : Book → List ℕ → ℕ → Type 0
HoldsFailures book t below = (i : ℕ) → i < below → fail_in t i ≡ failure_in book i
