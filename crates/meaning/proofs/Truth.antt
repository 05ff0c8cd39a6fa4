-- What an `and`, an `or` and a test that fails tell of their parts: there are only two truth values, so each is by cases.
-- Assumes nothing.
use mathlib.Core.Path.{◌≡◌, refl, sym}
use mathlib.Core.Logic.{◌↔◌, ◌⊎◌, inl, inr}
use mathlib.Core.Bool.{Bool, true, false, So, ◌&&◌, ◌||◌, and-eq-true_iff, false≢true}

pub both : (a b : Bool) → So a → So b → So (a && b)
both a b p q = (and-eq-true_iff a b).1 (p, q)

pub and_left : (a b : Bool) → So (a && b) → So a
and_left a b h = ((and-eq-true_iff a b).0 h).0

pub and_right : (a b : Bool) → So (a && b) → So b
and_right a b h = ((and-eq-true_iff a b).0 h).1

pub or_cases : (a b : Bool) → So (a || b) → So a ⊎ So b
or_cases true b h = inl refl
or_cases false b h = inr h

pub or_left : (a b : Bool) → So a → So (a || b)
or_left true b h = refl
or_left false b h = absurd (false≢true h)

pub or_right : (a b : Bool) → So b → So (a || b)
or_right true b h = refl
or_right false b h = h

-- A test that cannot hold is false.
pub untrue : (b : Bool) → (So b → ⊥) → b ≡ false
untrue true h = absurd (h refl)
untrue false h = refl

-- Two tests that say the same are equal.
pub same_truth : (a b : Bool) → So a ↔ So b → a ≡ b
same_truth true b h = sym (h.0 refl)
same_truth false true h = h.1 refl
same_truth false false h = refl
