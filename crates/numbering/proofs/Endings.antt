-- Which states are suffixes of a state: it itself, and those that are suffixes of its failure, so the failures lead through all of them.
-- Assumes nothing.
use mathlib.Core.Path.{◌≡◌, refl, sym, ap, ◌∙◌}
use mathlib.Core.Logic.{◌↔◌, ◌⊎◌, inl, inr, ⊎_elim}
use mathlib.Core.Bool.{Bool, true, false, So, cond, false≢true}
use mathlib.Core.List.{List, [], ◌∷◌}
use Prim.Native.Nat.{ℕ, zero, suc, ◌<◌}
use native.Mathlib.Omega.{arith}
use Rattle.meaning.specs.Books.{Book, keywords}
use Rattle.meaning.specs.Automaton.{Suffix, is_state, failure}
use Rattle.meaning.proofs.Suffixes.{suffix_self, suffix_nil}
use Rattle.meaning.proofs.Failures.{suffix_failure}
use Rattle.format.specs.Limits.{All, Bytes}
use Rattle.numbering.specs.States.{state_count, state_at, number_in, failure_in}
use Rattle.numbering.specs.Walks.{nearest}
use Rattle.numbering.proofs.States.{state_at_empty, state_at_only_empty, state_at_number, number_is, number_empty}
use Rattle.numbering.proofs.Steps.{failure_in_smaller, failure_in_inside, failure_in_string}
use Rattle.numbering.proofs.Walks.{nearest_root}

module _ (book : Book) (bytes : All Bytes (keywords book.phrases)) where
  -- A state w that is a suffix of the state of i is that state itself, or a suffix of its failure.
  pub ends_step : (w : List ℕ) → So (is_state book w) → (i : ℕ) → 0 < i → i < state_count book
      → Suffix w (state_at book i) ↔ ((number_in book w ≡ i) ⊎ Suffix w (state_at book (failure_in book i)))
  ends_step w h i p l = go (state_at book i) refl
    where
      go : (u : List ℕ) → state_at book i ≡ u → Suffix w (state_at book i) ↔ ((number_in book w ≡ i) ⊎ Suffix w (state_at book (failure_in book i)))
      go [] e = absurd (omega (arith, state_at_only_empty book i l e))
      go (x ∷ u) e =
          let f : state_at book (failure_in book i) ≡ failure (is_state book) (x ∷ u) = failure_in_string book bytes i ∙ ap (failure (is_state book)) e in
          let k = suffix_failure (is_state book) w x u h in (
            λ s. ⊎_elim
                (λ (z : w ≡ x ∷ u). inl (number_is book bytes w i l (e ∙ sym z)))
                (λ z. inr (rw f z))
                (k.0 (rw e at s)),
            ⊎_elim
                (λ (z : number_in book w ≡ i). rw (← z, state_at_number book bytes w h) (suffix_self w))
                (λ z. rw e (k.1 (inr (rw f at z)))),
          )

  -- Some states are marked, the empty one not. A marked state that is a suffix of the failure of i is a suffix of the nearest marked failure:
  -- so from there on all marked suffixes are found, and where there is no nearest there are none.
  module _ (fail : ℕ → ℕ) (failures : (i : ℕ) → 0 < i → i < state_count book → fail i ≡ failure_in book i)
      (marked : ℕ → Bool) (unmarked : marked 0 ≡ false) (w : List ℕ) (h : So (is_state book w)) (own : So (marked (number_in book w))) where
    not_empty : Suffix w (state_at book 0) → ⊥
    not_empty s =
        let e : w ≡ [] = suffix_nil (rw (state_at_empty book) at s) in
        false≢true (sym unmarked ∙ ap marked (sym (ap (number_in book) e ∙ number_empty book bytes)) ∙ own)

    pub nearest_right : (fuel i : ℕ) → i < fuel → 0 < i → i < state_count book
        → Suffix w (state_at book (fail i)) ↔ ((nearest marked fail fuel i ≡ 0 → ⊥) × Suffix w (state_at book (nearest marked fail fuel i)))
    unfolding nearest
    nearest_right zero i l p k = absurd (omega arith)
    nearest_right (suc fuel) zero l p k = absurd (omega arith)
    nearest_right (suc fuel) (suc i) l p k = go (marked u) refl (nearest_right fuel u)
      where
        u : ℕ
        u = fail (suc i)

        Found : ℕ → ℕ → Type 0
        Found from n = Suffix w (state_at book from) ↔ ((n ≡ 0 → ⊥) × Suffix w (state_at book n))

        is : u ≡ failure_in book (suc i)
        is = failures (suc i) p k

        inside : u < state_count book
        inside = rw is (failure_in_inside book bytes (suc i))

        smaller : u < suc i
        smaller = rw is (failure_in_smaller book bytes (suc i) p k)

        go : (v : Bool) → marked u ≡ v → (u < fuel → 0 < u → u < state_count book → Found (fail u) (nearest marked fail fuel u))
            → Found u (cond v u (nearest marked fail fuel u))
        go true e ih = (λ s. (λ z. false≢true (sym unmarked ∙ ap marked (sym z) ∙ e), s), λ q. q.1)
        go false e ih = at u refl
          where
            at : (n : ℕ) → u ≡ n → Found u (nearest marked fail fuel u)
            at zero z = (
              λ s. absurd (not_empty (rw z at s)),
              λ q. absurd (q.0 (ap (nearest marked fail fuel) z ∙ nearest_root marked fail fuel)),
            )
            at (suc n) z =
                let r = ih (omega (arith, smaller)) (omega arith) inside in
                let step = ends_step w h u (omega arith) inside in
                let f : fail u ≡ failure_in book u = failures u (omega arith) inside in (
                  λ s. ⊎_elim
                      (λ (y : number_in book w ≡ u). absurd (false≢true (sym e ∙ ap marked (sym y) ∙ own)))
                      (λ y. r.0 (rw f y))
                      (step.0 s),
                  λ q. step.1 (inr (rw f at (r.1 q))),
                )
