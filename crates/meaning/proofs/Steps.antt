-- The failure steps of one byte: from a state that goes forward there is none, and one failure is one step.
-- Assumes nothing.
use mathlib.Core.Path.{◌≡◌, refl, ◌∙◌}
use mathlib.Core.Bool.{Bool, true, false, So, cond, ◌&&◌, and-false, and-true}
use mathlib.Core.List.{List, [], ◌∷◌, ◌++◌}
use mathlib.Core.Option.{Option, none, some}
use Prim.Native.Nat.{ℕ, suc, ◌+◌, ◌≤◌}
use native.Mathlib.Nat.{zero-add}
use native.Mathlib.Omega.{arith}
use lib.Dec.{ltb}
use lib.ListN.{length}
use borrow.Author.Tests.{le-ltb, lt-ltb}
use Rattle.meaning.specs.Automaton.{PrefixClosed, after, failure, suffixes, count, goes_on, passed, steps_for}
use Rattle.meaning.proofs.Suffixes.{suffix_length}
use Rattle.meaning.proofs.After.{no_longer}
use Rattle.meaning.proofs.GoesOn.{goes_on_iff}

module _ (state : List ℕ → Bool) where
  -- No suffix is longer than the whole.
  none_longer : (n : ℕ) (u : List ℕ) → length u ≤ n → count (λ s. state s && ltb n (length s)) (suffixes u) ≡ 0
  unfolding count suffixes
  none_longer n [] h = rw (le-ltb n 0 (omega arith), and-false)
  none_longer n (x ∷ u) h = rw (le-ltb n (suc (length u)) h, and-false, none_longer n u (omega arith))

  -- The empty state costs no step.
  pub steps_root : (a : ℕ) → steps_for state [] a ≡ 0
  unfolding steps_for
  steps_root a = go (state [] && state (a ∷ []))
    where
      go : (v : Bool) → passed state [] (cond v (some []) none) ≡ 0
      go true = none_longer 0 [] (omega arith)
      go false = rw and-false

  -- A state that goes forward costs no step.
  pub steps_forward : (u : List ℕ) (a : ℕ) → So (state u) → So (state (u ++ a ∷ [])) → steps_for state u a ≡ 0
  unfolding steps_for
  steps_forward [] a h k = rw (h, k) (none_longer 0 [] (omega arith))
  steps_forward (x ∷ u) a h k = rw (h, k) (none_longer (suc (length u)) (x ∷ u) (omega arith))

  -- Where some bytes do not go forward, they count one if they are a state, and what follows their first byte counts the rest.
  pub steps_back : (x : ℕ) (u : List ℕ) (a : ℕ) → state (x ∷ u ++ a ∷ []) ≡ false
      → steps_for state (x ∷ u) a ≡ cond (state (x ∷ u)) 1 0 + steps_for state u a
  unfolding steps_for
  steps_back x u a h = rw (h, and-false) (go (goes_on state u a) refl)
    where
      go : (o : Option (List ℕ)) → goes_on state u a ≡ o → passed state (x ∷ u) o ≡ cond (state (x ∷ u)) 1 0 + passed state u o
      go none e = rw and-true
      go (some w) e = rw (lt-ltb (length w) (suc (length u)) (omega (arith, suffix_length ((goes_on_iff state u a w).0 e).ends)), and-true)

  module _ (closed : PrefixClosed state) where
    -- Bytes that are no state cost what the state after them costs.
    pub steps_after_lem : (u : List ℕ) (a : ℕ) → steps_for state u a ≡ steps_for state (after state u) a
    unfolding after
    steps_after_lem [] a = refl
    steps_after_lem (x ∷ u) a = go (state (x ∷ u)) refl (steps_after_lem u a)
      where
        go : (v : Bool) → state (x ∷ u) ≡ v → steps_for state u a ≡ steps_for state (after state u) a
            → steps_for state (x ∷ u) a ≡ steps_for state (cond v (x ∷ u) (after state u)) a
        go true e ih = refl
        go false e ih = steps_back x u a (no_longer state closed (x ∷ u) a e) ∙ rw e (zero-add _ ∙ ih)

    -- One failure is one step.
    pub steps_failure : (x : ℕ) (u : List ℕ) (a : ℕ) → So (state (x ∷ u)) → state (x ∷ u ++ a ∷ []) ≡ false
        → steps_for state (x ∷ u) a ≡ suc (steps_for state (failure state (x ∷ u)) a)
    unfolding failure
    steps_failure x u a h k = steps_back x u a k ∙ rw h (omega (arith, steps_after_lem u a))
