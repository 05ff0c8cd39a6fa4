-- A walk goes from a state to its failure as the next state and the steps do, so it comes to the one and counts the other.
-- Assumes nothing.
use mathlib.Core.Path.{◌≡◌, refl, sym, ap, ◌∙◌}
use mathlib.Core.Bool.{Bool, true, false, So, cond}
use mathlib.Core.List.{List, [], ◌∷◌, ◌++◌}
use Prim.Native.Nat.{ℕ, zero, suc, ◌≤◌, ◌<◌}
use native.Mathlib.Omega.{arith}
use lib.Dec.{eqb}
use borrow.Author.Tests.{eqb-true, eqb-false, eq-eqb, ne_eqb}
use Rattle.meaning.specs.Automaton.{PrefixClosed, after, failure}
use Rattle.meaning.proofs.Failures.{next_forward, next_root, next_failure}
use Rattle.meaning.proofs.Steps.{steps_root, steps_forward, steps_failure}
use Rattle.numbering.specs.Walks.{further_back, walk, nearest, UpTo, Lands}

-- ── How a walk goes on ──

module _ (child : ℕ → ℕ → ℕ) (fail : ℕ → ℕ) where
  -- To the child where there is one; else, from the empty state, no further; else on from the failure, with one step more.
  pub walk_forward : (fuel i a : ℕ) → (child i a ≡ 0 → ⊥) → walk child fail (suc fuel) i a ≡ record { at = child i a; taken = 0 }
  unfolding walk
  walk_forward fuel i a h = rw (ne_eqb (child i a) 0 h)

  pub walk_root : (fuel a : ℕ) → child 0 a ≡ 0 → walk child fail (suc fuel) 0 a ≡ record { at = 0; taken = 0 }
  unfolding walk
  walk_root fuel a h = rw (eq-eqb (child 0 a) 0 h)

  pub walk_back : (fuel i a : ℕ) → child i a ≡ 0 → 0 < i
      → walk child fail (suc fuel) i a ≡ further_back (walk child fail fuel (fail i) a)
  unfolding walk
  walk_back fuel i a h p = rw (eq-eqb (child i a) 0 h, ne_eqb i 0 (λ e. omega arith))

  -- Where every failure is smaller, fuel above the number is enough.
  pub walk_enough : ((i : ℕ) → 0 < i → fail i < i) → (f g i a : ℕ) → i < f → i < g → walk child fail f i a ≡ walk child fail g i a
  walk_enough falls zero g i a p q = absurd (omega arith)
  walk_enough falls (suc f) zero i a p q = absurd (omega arith)
  walk_enough falls (suc f) (suc g) i a p q = go (eqb (child i a) 0) refl i refl (walk_enough falls f g (fail i) a)
    where
      go : (v : Bool) → eqb (child i a) 0 ≡ v → (j : ℕ) → i ≡ j
          → (fail i < f → fail i < g → walk child fail f (fail i) a ≡ walk child fail g (fail i) a)
          → walk child fail (suc f) i a ≡ walk child fail (suc g) i a
      go false e j z ih =
          let h : child i a ≡ 0 → ⊥ = eqb-false (child i a) 0 e in
          walk_forward f i a h ∙ sym (walk_forward g i a h)
      go true e zero z ih =
          let h : child 0 a ≡ 0 = rw z at (eqb-true (child i a) 0 e) in
          rw z (walk_root f a h ∙ sym (walk_root g a h))
      go true e (suc j) z ih =
          let h : child i a ≡ 0 = eqb-true (child i a) 0 e in
          let l : fail i < i = falls i (omega arith) in
          walk_back f i a h (omega arith)
          ∙ ap further_back (ih (omega arith) (omega arith))
          ∙ sym (walk_back g i a h (omega arith))

-- ── The walk lands on the next state ──

module _ (state : List ℕ → Bool) (string : ℕ → List ℕ) (child : ℕ → ℕ → ℕ) (fail : ℕ → ℕ) (n f : ℕ)
    (closed : PrefixClosed state) (known : UpTo state string child fail n f) where
  -- From a number below f the walk comes to the next state, and counts the failure steps.
  pub walk_right : (fuel i a : ℕ) → i < fuel → i < f → Lands state string n (string i) a (walk child fail fuel i a)
  unfolding failure
  walk_right zero i a l h = absurd (omega arith)
  walk_right (suc fuel) i a l h = by_child (eqb (child i a) 0) refl (walk_right fuel (fail i) a)
    where
      FromFailure : Type 0
      FromFailure = fail i < fuel → fail i < f → Lands state string n (string (fail i)) a (walk child fail fuel (fail i) a)

      Here : Type 0
      Here = Lands state string n (string i) a (walk child fail (suc fuel) i a)

      inside : i < n
      inside = omega (arith, known.inside)

      at_root : child i a ≡ 0 → i ≡ 0 → Here
      at_root e z =
          let u : string i ≡ [] = ap string z ∙ known.empty in
          let none : state (a ∷ []) ≡ false = rw u at (known.no_child i a inside e) in
          let w : walk child fail (suc fuel) i a ≡ record { at = 0; taken = 0 } = rw z (walk_root child fail fuel a (rw z at e)) in
          rw (w, u) (record { inside = known.some; next = known.empty ∙ sym (next_root state closed a none); counted = sym (steps_root state a) })

      by_string : (u : List ℕ) → string i ≡ u → child i a ≡ 0 → 0 < i → FromFailure → Here
      by_string [] e c p ih = absurd (omega (arith, known.only_empty i inside e))
      by_string (x ∷ u) e c p ih =
          let none : state (x ∷ u ++ a ∷ []) ≡ false = rw e at (known.no_child i a inside c) in
          let to = known.fails i p h in
          let s : string (fail i) ≡ after state u = to.1 ∙ ap (failure state) e in
          let r = ih (omega (arith, to.0)) (omega (arith, to.0)) in
          rw (walk_back child fail fuel i a c p, e) (record {
            inside = r.inside;
            next = r.next ∙ rw s (sym (next_failure state closed x u a none));
            counted = ap suc r.counted ∙ rw s (sym (steps_failure state closed x u a (rw e at (known.states i inside)) none));
          })

      by_number : (j : ℕ) → i ≡ j → child i a ≡ 0 → FromFailure → Here
      by_number zero z e ih = at_root e z
      by_number (suc j) z e ih = by_string (string i) refl e (omega arith) ih

      by_child : (v : Bool) → eqb (child i a) 0 ≡ v → FromFailure → Here
      by_child false e ih =
          let c : child i a ≡ 0 → ⊥ = eqb-false (child i a) 0 e in
          let to = known.has_child i a inside c in
          let s : So (state (string i ++ a ∷ [])) = rw to.1 at (known.states (child i a) to.0) in
          rw (walk_forward child fail fuel i a c) (record {
            inside = to.0;
            next = to.1 ∙ sym (next_forward state closed (string i) a s);
            counted = sym (steps_forward state (string i) a (known.states i inside) s);
          })
      by_child true e ih = by_number i refl (eqb-true (child i a) 0 e) ih

-- ── The nearest failure that a test holds of ──

module _ (test : ℕ → Bool) (fail : ℕ → ℕ) where
  -- The empty state has no failure.
  pub nearest_root : (fuel : ℕ) → nearest test fail fuel 0 ≡ 0
  unfolding nearest
  nearest_root zero = refl
  nearest_root (suc fuel) = refl

  -- The test holds of what is found.
  pub nearest_tested : (fuel i : ℕ) → (nearest test fail fuel i ≡ 0 → ⊥) → So (test (nearest test fail fuel i))
  unfolding nearest
  nearest_tested zero i h = absurd (h refl)
  nearest_tested (suc fuel) zero h = absurd (h refl)
  nearest_tested (suc fuel) (suc i) h = go (test (fail (suc i))) refl h (nearest_tested fuel (fail (suc i)))
    where
      go : (v : Bool) → test (fail (suc i)) ≡ v → (cond v (fail (suc i)) (nearest test fail fuel (fail (suc i))) ≡ 0 → ⊥)
          → ((nearest test fail fuel (fail (suc i)) ≡ 0 → ⊥) → So (test (nearest test fail fuel (fail (suc i)))))
          → So (test (cond v (fail (suc i)) (nearest test fail fuel (fail (suc i)))))
      go true e h ih = e
      go false e h ih = ih h

  module _ (falls : (i : ℕ) → 0 < i → fail i < i) where
    -- Where every failure is smaller, fuel above the number is enough, and what is found is no larger.
    pub nearest_enough : (f g i : ℕ) → i < f → i < g → nearest test fail f i ≡ nearest test fail g i
    unfolding nearest
    nearest_enough zero g i p q = absurd (omega arith)
    nearest_enough (suc f) zero i p q = absurd (omega arith)
    nearest_enough (suc f) (suc g) zero p q = refl
    nearest_enough (suc f) (suc g) (suc i) p q =
        let l : fail (suc i) < suc i = falls (suc i) (omega arith) in
        ap (λ further. cond (test (fail (suc i))) (fail (suc i)) further) (nearest_enough f g (fail (suc i)) (omega arith) (omega arith))

    pub nearest_below : (fuel i : ℕ) → nearest test fail fuel i ≤ i
    unfolding nearest
    nearest_below zero i = omega arith
    nearest_below (suc fuel) zero = omega arith
    nearest_below (suc fuel) (suc i) = go (test (fail (suc i))) (nearest_below fuel (fail (suc i)))
      where
        smaller : fail (suc i) < suc i
        smaller = falls (suc i) (omega arith)

        go : (v : Bool) → nearest test fail fuel (fail (suc i)) ≤ fail (suc i) → cond v (fail (suc i)) (nearest test fail fuel (fail (suc i))) ≤ suc i
        go true h = omega (arith, smaller)
        go false h = omega (arith, smaller)
