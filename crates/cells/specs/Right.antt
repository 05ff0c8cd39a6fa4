-- What the tables must have before the rows are filled in, and what they have afterwards. Assumes nothing: these are definitions.
use Rattle.std.specs.Prelude.{◌≡◌, ◌⊎◌, List, ℕ, ◌+◌, ◌*◌, ◌≤◌, ◌<◌, length, get_or}
use Rattle.meaning.specs.Books.{Book}
use Rattle.lent.specs.Numbers.{number_at}
use Rattle.lent.specs.Zeros.{Zero}
use Rattle.numbering.specs.States.{byte_values, state_count}
use Rattle.tables.specs.Classes.{class_count}
use Rattle.tables.specs.Layout.{rows_at, room_for_cells, up_to, dense_count, column_of, cell_of}
use Rattle.tables.specs.Reads.{Whole, column_in}
use Rattle.stepping.specs.Held.{HoldsStates, HoldsFailures}

-- Before: the states, the failures and the columns are the book's, and all rows are zero.
pub record Ready (book : Book) (t : List ℕ) : Type 0 where
  pub whole : Whole t
  pub states : HoldsStates book t
  pub failures : HoldsFailures book t (state_count book)
  pub columns : (byte : ℕ) → byte < byte_values → column_in t byte ≡ column_of book byte
  pub zeros : Zero rows_at 49152 t

-- Afterwards: the rows are those of the layout, in every cell, and every other byte is as it was.
pub record Right (book : Book) (before after : List ℕ) : Type 0 where
  pub cells : (j : ℕ) → j < room_for_cells → number_at 2 after (rows_at + 2 * j) ≡ up_to (dense_count book * class_count book) (cell_of book) j
  pub kept : (k : ℕ) → (k < rows_at) ⊎ (49152 ≤ k) → get_or after k 0 ≡ get_or before k 0
  pub whole : length after ≡ length before
