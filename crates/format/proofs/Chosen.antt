-- A list without doubles whose elements are all in another is no longer than that, because each element takes one away from it; and
-- what is chosen from a list or made of its elements stands in order as they do. Assumes nothing.
use mathlib.Core.Path.{◌≡◌, refl, sym, ap}
use mathlib.Core.Logic.{⊎_elim}
use mathlib.Core.Bool.{Bool, true, false, cond}
use mathlib.Core.List.Memᴰ
use mathlib.Core.List.{List, [], ◌∷◌, ◌++◌, map, Memᴰ}
use Prim.Native.Nat.{◌≤◌}
use native.Mathlib.Omega.{arith}
use lib.ListN.{length, length-append}
use Rattle.meaning.specs.Reports.{choose, Sorted}
use Rattle.meaning.proofs.Reports.{choose_iff}

-- ── In order ──

module _ {A : Type 0} (R : A → A → Type 0) where
  -- What is chosen from a list stands in its order.
  pub sorted_chosen : (test : A → Bool) (xs : List A) → Sorted R xs → Sorted R (choose test xs)
  unfolding Sorted choose
  sorted_chosen test [] s = tt
  sorted_chosen test (a ∷ xs) s = go (test a) (sorted_chosen test xs s.1)
    where
      go : (v : Bool) → Sorted R (choose test xs) → Sorted R (cond v (a ∷ choose test xs) (choose test xs))
      go true ih = (λ y m. s.0 y ((choose_iff test xs y).0 m).0, ih)
      go false ih = ih

-- What is made of each element stands in order if that keeps the order.
pub sorted_map : {A B : Type 0} (R : A → A → Type 0) (S : B → B → Type 0) (g : A → B) → ((x y : A) → R x y → S (g x) (g y))
    → (xs : List A) → Sorted R xs → Sorted S (map g xs)
unfolding Sorted
sorted_map R S g k [] s = tt
sorted_map R S g k (x ∷ xs) s = (
  λ y m. let r = Memᴰ.of_map g xs m in rw (← r.2) (k x r.0 (s.0 r.0 r.1)),
  sorted_map R S g k xs s.1,
)

-- ── No longer ──

-- A list that has x is some elements, x, and the rest.
split_at : {A : Type 0} (xs : List A) (x : A) → Memᴰ x xs → (p q : List A) × (xs ≡ p ++ x ∷ q)
split_at [] x m = absurd (Memᴰ.not-nil m)
split_at {A} (a ∷ xs) x m = ⊎_elim
    (λ (e : x ≡ a). ([], xs, ap {B = List A} (λ z. z ∷ xs) (sym e)))
    (λ k. let r = split_at xs x k in (a ∷ r.0, r.1, ap {B = List A} (λ z. a ∷ z) r.2))
    (Memᴰ.cases_cons m)

-- No element stands twice in the first list, and all are in the second: then it is no longer.
pub no_longer : {A : Type 0} (xs ys : List A) → Sorted (λ (x y : A). x ≡ y → ⊥) xs → ((x : A) → Memᴰ x xs → Memᴰ x ys) → length xs ≤ length ys
unfolding Sorted
no_longer [] ys s h = omega arith
no_longer {A} (x ∷ xs) ys s h =
    let r = split_at ys x (h x (Memᴰ.head refl)) in
    let p : List A = r.0 in
    let q : List A = r.1 in
    let ih : length xs ≤ length (p ++ q) = no_longer xs (p ++ q) s.1 (λ y m. other p q y (s.0 y m) (rw r.2 at (h y (Memᴰ.tail m)))) in
    omega (arith, length-append p q, length-append p (x ∷ q), ap length r.2)
  where
    other : (p q : List A) (y : A) → (x ≡ y → ⊥) → Memᴰ y (p ++ x ∷ q) → Memᴰ y (p ++ q)
    other p q y ne m = ⊎_elim
        (λ k. Memᴰ.append_left q k)
        (λ k. ⊎_elim (λ (e : y ≡ x). absurd (ne (sym e))) (λ j. Memᴰ.append_right p j) (Memᴰ.cases_cons k))
        (Memᴰ.append_cases p m)
