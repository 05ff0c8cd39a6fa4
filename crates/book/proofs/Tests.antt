-- A test of two tests stops at the first that fails, and what is not at most a limit is above it. Assumes nothing.
use mathlib.Core.Path.{◌≡◌, refl, sym, ap, ◌∙◌}
use mathlib.Core.Logic.{◌⊎◌, inl, inr, ⊎_elim}
use mathlib.Core.Bool.{Bool, true, false, not, cond, ◌&&◌, and-false}
use Prim.Native.Nat.{ℕ, ◌≤◌, ◌<◌}
use native.Mathlib.Omega.{arith}
use lib.Dec.{leb, ltb}
use Rattle.format.specs.Limits.{most_number, most_rights}
use Rattle.format.specs.Faults.{between}
use borrow.Author.Tests.{le-leb, lt-leb, le-ltb, lt-ltb}
use Rattle.lent.proofs.Cases.{lt_or_le}

-- A number of two bytes and a rights code: each at least 1, the number is in range, and the code decides; else they are not.
module _ (number rights : ℕ) where
  pub in_range_holds : number < 65536 → 1 ≤ number → 1 ≤ rights → leb rights most_rights ≡ between 1 most_number number && between 1 most_rights rights
  unfolding between
  in_range_holds two some code = simp (le-leb 1 number some, le-leb number most_number (omega arith), le-leb 1 rights code)

  pub in_range_fails : ((1 ≤ number) × (rights < 1)) ⊎ (number < 1) → false ≡ between 1 most_number number && between 1 most_rights rights
  unfolding between
  in_range_fails (inl h) = simp (lt-leb 1 rights h.1) (sym (and-false (between 1 most_number number)))
  in_range_fails (inr h) = simp (lt-leb 1 number h)

-- Where both are to hold, one after the other is looked at.
pub one_by_one : {A : Type 0} (a b : Bool) (x y : A) → cond (not (a && b)) x y ≡ cond (not a) x (cond (not b) x y)
one_by_one true b x y = refl
one_by_one false b x y = refl

pub not_at_most : (n limit : ℕ) → not (leb n limit) ≡ ltb limit n
not_at_most n limit = ⊎_elim
    (λ (above : limit < n). ap not (lt-leb n limit above) ∙ sym (lt-ltb limit n above))
    (λ (within : n ≤ limit). ap not (le-leb n limit within) ∙ sym (le-ltb limit n within))
    (lt_or_le limit n)
