-- In a sorted list every element comes before those after it, so that none stands there twice and its members alone determine it.
-- Assumes nothing.
use mathlib.Core.Path.{◌≡◌, refl, sym}
use mathlib.Core.Logic.{◌↔◌, ⊎_elim}
use mathlib.Core.List.Memᴰ
use mathlib.Core.List.{List, [], ◌∷◌, ◌++◌, Memᴰ}
use Rattle.meaning.specs.Reports.{Sorted}

module _ {A : Type 0} (R : A → A → Type 0) where
  pub sorted_append : (xs ys : List A) → Sorted R xs → Sorted R ys
      → ((x y : A) → Memᴰ x xs → Memᴰ y ys → R x y) → Sorted R (xs ++ ys)
  unfolding Sorted
  sorted_append [] ys p q r = q
  sorted_append (x ∷ xs) ys p q r = (
    λ y m. ⊎_elim (p.0 y) (r x y (Memᴰ.head refl)) (Memᴰ.append_cases xs m),
    sorted_append xs ys p.1 q (λ a b m. r a b (Memᴰ.tail m)),
  )

  -- What stands somewhere in the list does not stand after it again.
  pub sorted_once : ((x : A) → R x x → ⊥) → (front : List A) (x : A) (back : List A) → Sorted R (front ++ x ∷ back) → Memᴰ x back → ⊥
  unfolding Sorted
  sorted_once never [] x back s m = never x (s.0 x m)
  sorted_once never (y ∷ front) x back s m = sorted_once never front x back s.1 m

  -- Two sorted lists with the same members are one.
  pub sorted_only : ((x y : A) → R x y → R y x → ⊥) → (xs ys : List A) → Sorted R xs → Sorted R ys
      → ((z : A) → Memᴰ z xs ↔ Memᴰ z ys) → xs ≡ ys
  unfolding Sorted
  sorted_only never [] [] p q same = refl
  sorted_only never [] (y ∷ ys) p q same = absurd (Memᴰ.not-nil ((same y).1 (Memᴰ.head refl)))
  sorted_only never (x ∷ xs) [] p q same = absurd (Memᴰ.not-nil ((same x).0 (Memᴰ.head refl)))
  sorted_only never (x ∷ xs) (y ∷ ys) p q same =
      let tails : xs ≡ ys = sorted_only never xs ys p.1 q.1 (λ z. (to z, from z)) in
      cc heads
    where
      not_later : Memᴰ x ys → x ≡ y
      not_later m = ⊎_elim
          (λ (e : y ≡ x). sym e)
          (λ k. absurd (never x y (p.0 y k) (q.0 x m)))
          (Memᴰ.cases_cons ((same y).1 (Memᴰ.head refl)))

      heads : x ≡ y
      heads = ⊎_elim (λ e. e) not_later (Memᴰ.cases_cons ((same x).0 (Memᴰ.head refl)))

      to : (z : A) → Memᴰ z xs → Memᴰ z ys
      to z m = ⊎_elim
          (λ (e : z ≡ y). let r : R x x = rw (e, ← heads) at (p.0 z m) in absurd (never x x r r))
          (λ k. k)
          (Memᴰ.cases_cons ((same z).0 (Memᴰ.tail m)))

      from : (z : A) → Memᴰ z ys → Memᴰ z xs
      from z m = ⊎_elim
          (λ (e : z ≡ x). let r : R y y = rw (e, heads) at (q.0 z m) in absurd (never y y r r))
          (λ k. k)
          (Memᴰ.cases_cons ((same z).1 (Memᴰ.tail m)))
