-- The failure of a state is the state after what follows its first byte, so the laws of `after` give those of failures.
-- Assumes nothing.
use mathlib.Core.Path.{◌≡◌, ap, ◌∙◌}
use mathlib.Core.Logic.{◌↔◌, ◌⊎◌, inl, inr, ⊎_elim}
use mathlib.Core.Bool.{Bool, false, So}
use mathlib.Core.List.{List, [], ◌∷◌, ◌++◌}
use Prim.Native.Nat.{ℕ, suc, ◌<◌}
use native.Mathlib.Omega.{arith}
use lib.ListN.{length}
use Rattle.meaning.specs.Automaton.{Suffix, PrefixClosed, After, FailsTo, after, failure}
use Rattle.meaning.proofs.Suffixes.{suffix_cons, suffix_length, suffix_trans}
use Rattle.meaning.proofs.After.{after_self, after_tail, after_is, after_only, after_suffix, after_longest, after_step}

-- A suffix of some bytes that is shorter than they is a suffix of what follows the first byte.
proper : (s : List ℕ) (x : ℕ) (u : List ℕ) → Suffix s (x ∷ u) → length s < suc (length u) → Suffix s u
proper s x u h l = ⊎_elim (λ (e : s ≡ x ∷ u). absurd (omega (arith, ap length e))) (λ k. k) ((suffix_cons s x u).0 h)

module _ (state : List ℕ → Bool) where
  -- A failure is shorter than its state, so that following failures ends.
  pub failure_shorter : (x : ℕ) (u : List ℕ) → length (failure state (x ∷ u)) < length (x ∷ u)
  unfolding failure
  failure_shorter x u = omega (arith, suffix_length (after_suffix state u))

  -- It is the longest proper suffix that is a state, and no other bytes are that.
  pub failure_is : So (state []) → (x : ℕ) (u : List ℕ) → FailsTo state (x ∷ u) (failure state (x ∷ u))
  unfolding failure
  failure_is empty x u =
      let r : After state u (after state u) = after_is state empty u in
      record {
        ends = (suffix_cons (after state u) x u).1 (inr r.ends);
        proper = failure_shorter x u;
        is = r.is;
        longest = λ other h l k. r.longest other (proper other x u h l) k;
      }

  pub failure_only : (from to : List ℕ) → FailsTo state from to → to ≡ failure state from
  unfolding failure
  failure_only [] to h = absurd (omega (arith, h.proper))
  failure_only (x ∷ u) to h = after_only state u to (record {
    ends = proper to x u h.ends h.proper;
    is = h.is;
    longest = λ other k s. h.longest other ((suffix_cons other x u).1 (inr k)) (omega (arith, suffix_length k)) s;
  })

  -- A state that is a suffix of u is u itself or a suffix of u's failure: so the failures lead through all of them.
  pub suffix_failure : (s : List ℕ) (x : ℕ) (u : List ℕ) → So (state s)
      → Suffix s (x ∷ u) ↔ ((s ≡ x ∷ u) ⊎ Suffix s (failure state (x ∷ u)))
  unfolding failure
  suffix_failure s x u h = (
    λ k. ⊎_elim inl (λ r. inr (after_longest state u s r h)) ((suffix_cons s x u).0 k),
    λ k. (suffix_cons s x u).1 (⊎_elim inl (λ r. inr (suffix_trans r (after_suffix state u))) k),
  )

  -- ── One byte more ──

  module _ (closed : PrefixClosed state) where
    -- The next state from u with the byte a: forward to ua where that is a state; the empty state where not even a is one;
    -- else the next state from the failure of u.
    pub next_forward : (u : List ℕ) (a : ℕ) → So (state (u ++ a ∷ [])) → after state (u ++ a ∷ []) ≡ u ++ a ∷ []
    next_forward u a h = after_self state (u ++ a ∷ []) h

    pub next_root : (a : ℕ) → state (a ∷ []) ≡ false → after state (a ∷ []) ≡ []
    unfolding after
    next_root a h = rw h

    pub next_failure : (x : ℕ) (u : List ℕ) (a : ℕ) → state (x ∷ u ++ a ∷ []) ≡ false
        → after state (x ∷ u ++ a ∷ []) ≡ after state (failure state (x ∷ u) ++ a ∷ [])
    unfolding failure
    next_failure x u a h = after_tail state x (u ++ a ∷ []) h ∙ after_step state closed u a

    -- The failure of a child is the next state from its parent's failure.
    pub failure_child : (x : ℕ) (u : List ℕ) (a : ℕ) → failure state (x ∷ u ++ a ∷ []) ≡ after state (failure state (x ∷ u) ++ a ∷ [])
    unfolding failure
    failure_child x u a = after_step state closed u a
