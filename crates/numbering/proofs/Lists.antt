-- An element of a list stands somewhere in it; in a sorted list an earlier place means an earlier element.
-- Assumes nothing.
use mathlib.Core.Path.{◌≡◌, refl, sym, ap}
use mathlib.Core.Logic.{◌↔◌, ◌⊎◌, inl, inr, ⊎_elim}
use mathlib.Core.Bool.{Bool, true, false, cond}
use mathlib.Core.List.Memᴰ
use mathlib.Core.List.{List, [], ◌∷◌, ◌++◌, Memᴰ}
use Prim.Native.Nat.{ℕ, zero, suc, ◌≤◌, ◌<◌}
use native.Mathlib.Nat.{le-suc_iff}
use native.Mathlib.Omega.{arith}
use lib.ListN.{length, get_or}
use Rattle.meaning.specs.Reports.{choose, Sorted}
use Rattle.meaning.proofs.Sorted.{sorted_append}
use Rattle.format.proofs.Tests.{less_or_not}
use Rattle.numbering.specs.Listed.{below}

pub less_equal_more : (a b : ℕ) → (a < b) ⊎ ((a ≡ b) ⊎ (b < a))
less_equal_more a b = ⊎_elim
    inl
    (λ (h : b ≤ a). inr (⊎_elim (λ (k : b < a). inr k) (λ (k : a ≤ b). inl (omega arith)) (less_or_not b a)))
    (less_or_not a b)

-- ── Elements and where they stand ──

module _ {A : Type 0} (d : A) where
  -- What stands at a place inside the list is an element, and every element stands at such a place.
  pub at_in : (l : List A) (i : ℕ) → i < length l → Memᴰ (get_or l i d) l
  at_in [] i h = absurd (omega arith)
  at_in (x ∷ l) zero h = Memᴰ.head refl
  at_in (x ∷ l) (suc i) h = Memᴰ.tail (at_in l i (omega arith))

  pub in_at : (l : List A) (x : A) → Memᴰ x l → (i : ℕ) × (i < length l) × (get_or l i d ≡ x)
  in_at [] x h = absurd (Memᴰ.not-nil h)
  in_at (y ∷ l) x h = ⊎_elim
      (λ (e : x ≡ y). (0, omega arith, sym e))
      (λ k. let r = in_at l x k in (suc r.0, omega arith, r.2))
      (Memᴰ.cases_cons h)

  -- Inside a list it does not matter what is given past its end.
  pub at_inside : (l : List A) (i : ℕ) (e : A) → i < length l → get_or l i d ≡ get_or l i e
  at_inside [] i e h = absurd (omega arith)
  at_inside (x ∷ l) zero e h = refl
  at_inside (x ∷ l) (suc i) e h = at_inside l i e (omega arith)

-- What is chosen of two lists is chosen of each.
pub choose_append : {A : Type 0} (test : A → Bool) (l k : List A) → choose test (l ++ k) ≡ choose test l ++ choose test k
unfolding choose
choose_append test [] k = refl
choose_append {A} test (x ∷ l) k = go (test x) (choose_append test l k)
  where
    go : (v : Bool) → choose test (l ++ k) ≡ choose test l ++ choose test k
        → cond v (x ∷ choose test (l ++ k)) (choose test (l ++ k)) ≡ cond v (x ∷ choose test l) (choose test l) ++ choose test k
    go true e = ap {B = List A} (λ z. x ∷ z) e
    go false e = e

-- ── Sorted lists ──

module _ {A : Type 0} (R : A → A → Type 0) where
  pub sorted_one : (x : A) → Sorted R (x ∷ [])
  unfolding Sorted
  sorted_one x = (λ y m. absurd (Memᴰ.not-nil m), tt)

  -- What stands earlier comes before.
  pub sorted_at : (d : A) (l : List A) → Sorted R l → (i j : ℕ) → i < j → j < length l → R (get_or l i d) (get_or l j d)
  unfolding Sorted
  sorted_at d [] s i j p q = absurd (omega arith)
  sorted_at d (x ∷ l) s i zero p q = absurd (omega arith)
  sorted_at d (x ∷ l) s zero (suc j) p q = s.0 (get_or l j d) (at_in d l j (omega arith))
  sorted_at d (x ∷ l) s (suc i) (suc j) p q = sorted_at d l s.1 i j (omega arith) (omega arith)

  pub sorted_weaken : (S : A → A → Type 0) → ((x y : A) → R x y → S x y) → (l : List A) → Sorted R l → Sorted S l
  unfolding Sorted
  sorted_weaken S weaker [] s = tt
  sorted_weaken S weaker (x ∷ l) s = (λ y m. weaker x y (s.0 y m), sorted_weaken S weaker l s.1)

-- ── The numbers below n ──

pub below_iff : (n x : ℕ) → Memᴰ x (below n) ↔ (x < n)
unfolding below
below_iff zero x = (λ h. absurd (Memᴰ.not-nil h), λ h. absurd (omega arith))
below_iff (suc n) x = (
  λ h. ⊎_elim
      (λ k. omega (arith, (below_iff n x).0 k))
      (λ k. let e : x ≡ n = Memᴰ.eq_of_singleton k in omega arith)
      (Memᴰ.append_cases (below n) h),
  λ h. ⊎_elim
      (λ (k : suc x ≤ n). Memᴰ.append_left _ ((below_iff n x).1 k))
      (λ (k : suc x ≡ suc n). Memᴰ.append_right (below n) (Memᴰ.head (omega arith)))
      (le-suc_iff.0 h),
)

pub below_sorted : (n : ℕ) → Sorted ◌<◌ (below n)
unfolding below Sorted
below_sorted zero = tt
below_sorted (suc n) = sorted_append ◌<◌ (below n) (n ∷ []) (below_sorted n) (sorted_one ◌<◌ n)
    (λ x y k j. let e : y ≡ n = Memᴰ.eq_of_singleton j in omega (arith, (below_iff n x).0 k))
