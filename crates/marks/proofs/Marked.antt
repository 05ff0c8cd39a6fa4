-- A mark is a bit of a number, by its rank; so what holds of bits holds of marks.
-- Assumes nothing.
use mathlib.Core.Path.{◌≡◌, ap, ◌∙◌}
use mathlib.Core.Bool.{false, ◌||◌}
use Prim.Native.Nat.{ℕ, ◌≤◌, ◌<◌}
use lib.Dec.{eqb}
use borrow.Author.Tests.{lt-ltb, le-ltb}
use Rattle.bits.specs.Bits.{set_bit}
use Rattle.bits.proofs.Bits.{bit_none, bit_set_lem}
use Rattle.marks.specs.Marked.{no_marks, is_marked, with_mark}
use Rattle.marks.specs.declared.Marks.{Marks}

module _ (marks : Marks) (j : ℕ) where
  pub with_bit : j < 128 → with_mark marks j ≡ record { bits = set_bit marks.bits j }
  unfolding with_mark
  with_bit inside = rw (lt-ltb j 128 inside)

  pub with_none : 128 ≤ j → with_mark marks j ≡ marks
  unfolding with_mark
  with_none past = rw (le-ltb j 128 past)

pub none_marked : (j : ℕ) → is_marked no_marks j ≡ false
unfolding is_marked
none_marked j = bit_none j

-- With one mark more a phrase is marked that was, and the one of this rank.
pub marked_with : (marks : Marks) (j k : ℕ) → j < 128 → is_marked (with_mark marks j) k ≡ is_marked marks k || eqb k j
unfolding is_marked
marked_with marks j k inside = ap (λ (m : Marks). is_marked m k) (with_bit marks j inside) ∙ bit_set_lem marks.bits j k
