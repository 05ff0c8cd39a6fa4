-- What the columns are once they are filled in. Assumes nothing: these are definitions.
use Rattle.std.specs.Prelude.{◌≡◌, ◌⊎◌, List, ℕ, ◌≤◌, ◌<◌, length, get_or}
use Rattle.meaning.specs.Books.{Book}
use Rattle.numbering.specs.States.{byte_values}
use Rattle.tables.specs.Layout.{dense_at, pieces_at, column_at, info_at, dense_count, column_of}
use Rattle.tables.specs.Reads.{dense_in, column_in}

-- The two regions of the number of rows and of the columns are as the layout of the tables has them for the book, and every other byte
-- is as it was.
pub record Right (book : Book) (before after : List ℕ) : Type 0 where
  pub dense : dense_in after ≡ dense_count book
  pub columns : (byte : ℕ) → byte < byte_values → column_in after byte ≡ column_of book byte
  pub kept : (k : ℕ) → (k < dense_at) ⊎ (((pieces_at ≤ k) × (k < column_at)) ⊎ (info_at ≤ k)) → get_or after k 0 ≡ get_or before k 0
  pub whole : length after ≡ length before
