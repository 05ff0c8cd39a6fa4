-- A test holds or does not, and never both: so there are only two cases of each, and of a comparison of numbers. Assumes nothing.
use mathlib.Core.Path.{◌≡◌, refl}
use mathlib.Core.Logic.{◌⊎◌, inl, inr}
use mathlib.Core.Bool.{Bool, true, false, So, not, ◌||◌, true≢false, false≢true}
use Prim.Native.Nat.{ℕ, ◌≤◌, ◌<◌}
use lib.Dec.{ltb}
use borrow.Author.Tests.{ltb-true, ltb-false}
pub use Rattle.meaning.proofs.Truth.{both, and_left, and_right, or_cases, or_left, or_right}

-- A test that does not hold adds nothing to another.
pub or_nothing : (a : Bool) → a || false ≡ a
or_nothing true = refl
or_nothing false = refl

-- Where it is not so that one of two tests holds, neither does.
pub neither : (a b : Bool) → a || b ≡ false → (a ≡ false) × (b ≡ false)
neither true b h = absurd (true≢false h)
neither false b h = (refl, h)

-- A test holds, or its denial does,
pub true_or_not : (a : Bool) → So a ⊎ So (not a)
true_or_not true = inl refl
true_or_not false = inr refl

-- and not both.
pub never_both : (a : Bool) → So (not a) → So a → ⊥
never_both true h k = false≢true h
never_both false h k = false≢true k

-- A number is less than another, or it is not.
pub less_or_not : (m n : ℕ) → (m < n) ⊎ (n ≤ m)
less_or_not m n = go (ltb m n) refl
  where
    go : (t : Bool) → ltb m n ≡ t → (m < n) ⊎ (n ≤ m)
    go true e = inl (ltb-true m n e)
    go false e = inr (ltb-false m n e)
