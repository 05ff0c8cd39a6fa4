-- What is kept of a piece is its spot's where the book has such a piece, and nothing where it has none: the count of the pieces decides.
-- Assumes nothing.
use mathlib.Core.Path.{◌≡◌}
use mathlib.Core.Bool.{false}
use mathlib.Core.List.{List}
use Prim.Native.Nat.{ℕ, ◌≤◌, ◌<◌}
use lib.ListN.{length}
use borrow.Author.Tests.{lt-ltb, le-ltb}
use Rattle.meaning.specs.Books.{Book}
use Rattle.tables.specs.Spots.{spot_at, spot_count}
use Rattle.running.specs.Waiting.{opens_from, place_in, waits}

module _ (book : Book) (x : List ℕ) (q p : ℕ) where
  pub waits_below : p < spot_count book → waits book x q p ≡ opens_from (spot_at book p) x (place_in (length x) q)
  unfolding waits
  waits_below h = rw (lt-ltb p (spot_count book) h)

  pub waits_past : spot_count book ≤ p → waits book x q p ≡ false
  unfolding waits
  waits_past h = rw (le-ltb p (spot_count book) h)
