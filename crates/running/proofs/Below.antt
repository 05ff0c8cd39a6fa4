-- A test of the numbers below n holds of some one of them: the last or an earlier one.
-- Assumes nothing.
use mathlib.Core.Path.{◌≡◌, refl, ap₂}
use mathlib.Core.Logic.{◌↔◌, ⊎_elim}
use mathlib.Core.Bool.{Bool, So, ◌||◌, false≢true}
use Prim.Native.Nat.{ℕ, zero, suc, ◌≤◌, ◌<◌}
use native.Mathlib.Nat.{le-suc_iff}
use native.Mathlib.Omega.{arith}
use Rattle.meaning.proofs.Truth.{or_cases, or_left, or_right}
use Rattle.running.specs.Waiting.{some_below}

pub some_below_iff : (test : ℕ → Bool) (n : ℕ) → So (some_below test n) ↔ ((k : ℕ) × (k < n) × So (test k))
unfolding some_below
some_below_iff test zero = (λ h. absurd (false≢true h), λ r. absurd (omega arith))
some_below_iff test (suc n) = (
  λ h. ⊎_elim
      (λ p. (n, omega arith, p))
      (λ p. let r : (k : ℕ) × (k < n) × So (test k) = (some_below_iff test n).0 p in (r.0, omega arith, r.2))
      (or_cases (test n) (some_below test n) h),
  λ r. ⊎_elim
      (λ (l : suc r.0 ≤ n). or_right (test n) (some_below test n) ((some_below_iff test n).1 (r.0, l, r.2)))
      (λ (e : suc r.0 ≡ suc n). let z : r.0 ≡ n = omega arith in or_left (test n) (some_below test n) (rw z at r.2))
      (le-suc_iff.0 r.1),
)

-- Tests that agree below n agree on whether they hold of some number there.
pub some_below_same : (test other : ℕ → Bool) (n : ℕ) → ((k : ℕ) → k < n → test k ≡ other k) → some_below test n ≡ some_below other n
unfolding some_below
some_below_same test other zero h = refl
some_below_same test other (suc n) h = ap₂ ◌||◌ (h n (omega arith)) (some_below_same test other n (λ k l. h k (omega arith)))
