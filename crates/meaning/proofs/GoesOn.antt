-- From where a byte goes on: the suffixes are tried from the longest on, so the first that serves is the longest that serves.
-- Assumes nothing.
use mathlib.Core.Path.{◌≡◌, refl, sym, ap, ◌∙◌}
use mathlib.Core.Logic.{◌↔◌, ◌⊎◌, inl, inr, ⊎_elim}
use mathlib.Core.Bool.{Bool, true, false, So, cond, ◌&&◌, false≢true}
use mathlib.Core.List.Memᴰ
use mathlib.Core.List.{List, [], ◌∷◌, ◌++◌, Memᴰ}
use mathlib.Core.Option.{Option, none, some}
use Prim.Native.Nat.{ℕ, ◌≤◌, ◌<◌}
use native.Mathlib.Omega.{arith}
use lib.ListN.{length}
use Rattle.meaning.specs.Reports.{Sorted}
use Rattle.meaning.specs.Automaton.{Suffix, suffixes, first, GoesOn, goes_on}
use Rattle.meaning.proofs.Truth.{both, and_left, and_right}
use Rattle.meaning.proofs.Suffixes.{suffix_one, suffixes_iff, suffixes_fall}

module _ {A : Type 0} (test : A → Bool) where
  -- Where no element is found, the test holds of none.
  first_none : (l : List A) → first test l ≡ none → (y : A) → Memᴰ y l → So (test y) → ⊥
  unfolding first
  first_none [] e y m h = Memᴰ.not-nil m
  first_none (x ∷ l) e y m h = go (test x) refl e (first_none l)
    where
      go : (v : Bool) → test x ≡ v → cond v (some x) (first test l) ≡ none
          → (first test l ≡ none → (z : A) → Memᴰ z l → So (test z) → ⊥) → ⊥
      go true t f ih = let z : ◌≡◌ {A = ℕ} 0 1 = cc in omega arith
      go false t f ih = ⊎_elim (λ (p : y ≡ x). false≢true (sym t ∙ ap test (sym p) ∙ h)) (λ k. ih f y k h) (Memᴰ.cases_cons m)

  -- What is found is an element of which the test holds; in a sorted list every other such element comes after it.
  first_some : (R : A → A → Type 0) (l : List A) → Sorted R l → (x : A) → first test l ≡ some x
      → Memᴰ x l × So (test x) × ((y : A) → Memᴰ y l → So (test y) → (y ≡ x) ⊎ R x y)
  unfolding first Sorted
  first_some R [] s x e = let z : ◌≡◌ {A = ℕ} 0 1 = cc in absurd (omega arith)
  first_some R (y ∷ l) s x e = go (test y) refl e (first_some R l s.1 x)
    where
      go : (v : Bool) → test y ≡ v → cond v (some y) (first test l) ≡ some x
          → (first test l ≡ some x → Memᴰ x l × So (test x) × ((z : A) → Memᴰ z l → So (test z) → (z ≡ x) ⊎ R x z))
          → Memᴰ x (y ∷ l) × So (test x) × ((z : A) → Memᴰ z (y ∷ l) → So (test z) → (z ≡ x) ⊎ R x z)
      go true t f ih =
          let p : x ≡ y = cc in
          (Memᴰ.head p, ap test p ∙ t, λ z m h. rw p (⊎_elim inl (λ k. inr (s.0 z k)) (Memᴰ.cases_cons m)))
      go false t f ih =
          let r = ih f in (
            Memᴰ.tail r.0,
            r.1,
            λ z m h. ⊎_elim (λ (p : z ≡ y). absurd (false≢true (sym t ∙ ap test (sym p) ∙ h))) (λ k. r.2 z k h) (Memᴰ.cases_cons m),
          )

module _ (state : List ℕ → Bool) (u : List ℕ) (a : ℕ) where
  -- A suffix serves if it is a state and goes on, with the byte, to a state.
  abbrev serves : List ℕ → Bool
  serves w = state w && state (w ++ a ∷ [])

  found : (w : List ℕ) → goes_on state u a ≡ some w → GoesOn state u a w
  unfolding goes_on
  found w e =
      let r = first_some serves (λ s t. length t < length s) (suffixes u) (suffixes_fall u) w e in
      record {
        ends = (suffixes_iff u w).0 r.0;
        is = and_left (state w) (state (w ++ a ∷ [])) r.1;
        onward = and_right (state w) (state (w ++ a ∷ [])) r.1;
        longest = λ other s h k. ⊎_elim
            (λ (p : other ≡ w). omega (arith, ap length p))
            (λ (l : length other < length w). omega arith)
            (r.2 other ((suffixes_iff u other).1 s) (both (state other) (state (other ++ a ∷ [])) h k));
      }

  -- Nothing is found exactly when no suffix w of u is a state with wa a state.
  pub goes_on_none_iff : (goes_on state u a ≡ none) ↔ ((w : List ℕ) → Suffix w u → So (state w) → So (state (w ++ a ∷ [])) → ⊥)
  unfolding goes_on
  goes_on_none_iff = (
    λ e w s h k. first_none serves (suffixes u) e w ((suffixes_iff u w).1 s) (both (state w) (state (w ++ a ∷ [])) h k),
    go (goes_on state u a) refl,
  )
    where
      go : (o : Option (List ℕ)) → goes_on state u a ≡ o
          → ((w : List ℕ) → Suffix w u → So (state w) → So (state (w ++ a ∷ [])) → ⊥) → goes_on state u a ≡ none
      go none e n = e
      go (some w) e n = let g : GoesOn state u a w = found w e in absurd (n w g.ends g.is g.onward)

  -- What is found is the longest such w.
  pub goes_on_iff : (w : List ℕ) → (goes_on state u a ≡ some w) ↔ GoesOn state u a w
  goes_on_iff w = (found w, go (goes_on state u a) refl)
    where
      go : (o : Option (List ℕ)) → goes_on state u a ≡ o → GoesOn state u a w → goes_on state u a ≡ some w
      go none e g = absurd (goes_on_none_iff.0 e w g.ends g.is g.onward)
      go (some v) e g =
          let f : GoesOn state u a v = found v e in
          let p : length w ≤ length v = f.longest w g.ends g.is g.onward in
          let q : length v ≤ length w = g.longest v f.ends f.is f.onward in
          let n : length v ≡ length w = omega arith in
          e ∙ ap some (suffix_one f.ends g.ends n)
