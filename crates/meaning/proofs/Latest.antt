-- The latest number of which a test holds: the search goes from the last number down, so what it meets first is the latest.
-- Assumes nothing.
use mathlib.Core.Path.{◌≡◌, refl, sym, ap, ◌∙◌}
use mathlib.Core.Logic.{◌↔◌, ⊎_elim}
use mathlib.Core.Bool.{Bool, true, false, So, cond, false≢true}
use mathlib.Core.Option.{Option, none, some}
use Prim.Native.Nat.{ℕ, zero, suc, ◌≤◌}
use native.Mathlib.Nat.{le-suc_iff}
use native.Mathlib.Omega.{arith}
use Rattle.meaning.specs.Windows.{latest, Latest, Holds, holds}

-- The search finds the latest number up to n, if there is one.
pub latest_is : (test : ℕ → Bool) (n : ℕ) → Latest test n (latest test n)
unfolding latest Latest
latest_is test zero = go (test zero) refl
  where
    go : (v : Bool) → test zero ≡ v → Latest test zero (cond v (some zero) none)
    go true e = (e, omega arith, λ k l h. l)
    go false e = λ k l h. let z : k ≡ 0 = omega arith in false≢true (sym e ∙ (rw z at h))
latest_is test (suc n) = go (test (suc n)) refl (latest test n) (latest_is test n)
  where
    go : (v : Bool) → test (suc n) ≡ v → (o : Option ℕ) → Latest test n o → Latest test (suc n) (cond v (some (suc n)) o)
    go true e o h = (e, omega arith, λ k l g. l)
    go false e none h = λ k l g. ⊎_elim (λ (q : k ≤ n). h k q g) (λ (q : k ≡ suc n). false≢true (sym e ∙ (rw q at g))) (le-suc_iff.0 l)
    go false e (some c) h = (
      h.0,
      omega arith,
      λ k l g. ⊎_elim (λ (q : k ≤ n). h.2 k q g) (λ (q : k ≡ suc n). absurd (false≢true (sym e ∙ (rw q at g)))) (le-suc_iff.0 l),
    )

-- Two such answers are one.
pub latest_one : (test : ℕ → Bool) (n : ℕ) (o p : Option ℕ) → Latest test n o → Latest test n p → o ≡ p
unfolding Latest
latest_one test n none none h k = refl
latest_one test n none (some d) h k = absurd (h d k.1 k.0)
latest_one test n (some c) none h k = absurd (k c h.1 h.0)
latest_one test n (some c) (some d) h k =
    let e : c ≡ d = omega (arith, k.2 c h.1 h.0, h.2 d k.1 k.0) in
    ap some e

-- Tests that agree up to n have one latest number.
pub latest_same : (f g : ℕ → Bool) (n : ℕ) → ((k : ℕ) → k ≤ n → f k ≡ g k) → latest f n ≡ latest g n
unfolding latest
latest_same f g zero h = rw (h 0 (omega arith))
latest_same f g (suc n) h = rw (h (suc n) (omega arith), latest_same f g n (λ k l. h k (omega arith)))

-- Where a property passes from a number to every later one, the latest number alone tells whether test and property hold of some.
pub latest_enough : (test : ℕ → Bool) (P : ℕ → Type 0) → ((c d : ℕ) → c ≤ d → P c → P d) → (n : ℕ)
    → ((c : ℕ) × (c ≤ n) × So (test c) × P c) ↔ Holds P (latest test n)
unfolding Latest Holds
latest_enough test P later n = go (latest test n) (latest_is test n)
  where
    go : (o : Option ℕ) → Latest test n o → ((c : ℕ) × (c ≤ n) × So (test c) × P c) ↔ Holds P o
    go none h = (λ r. h r.0 r.1 r.2, λ r. absurd r)
    go (some d) h = (λ r. later r.0 d (h.2 r.0 r.1 r.2) r.3, λ r. (d, h.1, h.0, r))

-- Where a test says what a property says, so it does of a number that may be there.
pub holds_iff : (test : ℕ → Bool) (P : ℕ → Type 0) → ((c : ℕ) → So (test c) ↔ P c) → (o : Option ℕ) → So (holds test o) ↔ Holds P o
unfolding holds Holds
holds_iff test P same none = (λ h. absurd (false≢true h), λ h. absurd h)
holds_iff test P same (some c) = same c
