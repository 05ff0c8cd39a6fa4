-- Where the last column fits, each column does.
-- Assumes nothing.
use mathlib.Core.Path.{◌≡◌}
use mathlib.Core.Logic.{⊎_elim}
use mathlib.Core.Bool.{true}
use mathlib.Core.List.{List}
use Prim.Native.Nat.{ℕ, zero, suc, max, ◌+◌, ◌≤◌, ◌<◌}
use native.Mathlib.Numerals.{add-one}
use native.Mathlib.Omega.{arith}
use borrow.Author.Tests.{leb-true}
use Rattle.lent.proofs.Cases.{eq_or_ne}
use Rattle.tables.specs.Reads.{dense_in, column_in}
use Rattle.seeking.specs.Quick.{last_column}
use Rattle.ahead.specs.Columns.{farthest, columns_fit}

module _ (t : List ℕ) where
  -- One byte more.
  pub farthest_more : (n last now : ℕ) → last ≡ farthest t n → now ≡ max last (column_in t n) → now ≡ farthest t (n + 1)
  unfolding farthest
  farthest_more n last now e h = rw (add-one, ← e) h

  farthest_most : (n byte : ℕ) → byte < n → column_in t byte ≤ farthest t n
  unfolding farthest
  farthest_most zero byte l = absurd (omega arith)
  farthest_most (suc n) byte l =
      ⊎_elim
      (λ (e : byte ≡ n). rw e (omega arith))
      (λ (d : byte ≡ n → ⊥). omega (arith, farthest_most n byte (omega arith)))
      (eq_or_ne byte n)

  -- The column of a byte leaves room for the cells of all dense states.
  pub columns_within : columns_fit t ≡ true → (byte : ℕ) → byte < 256 → column_in t byte ≤ last_column (dense_in t)
  unfolding columns_fit
  columns_within fit byte l = omega (arith, leb-true (farthest t 256) (last_column (dense_in t)) fit, farthest_most 256 byte l)
