-- The state after some bytes: the search for it tries the suffixes from the longest on, so what it finds first is the longest state.
-- Assumes nothing.
use mathlib.Core.Path.{◌≡◌, refl, sym, ap, ◌∙◌}
use mathlib.Core.Logic.{inr, ⊎_elim}
use mathlib.Core.Bool.{Bool, true, false, So, cond, false≢true}
use mathlib.Core.List.{List, [], ◌∷◌, ◌++◌, append-nil}
use Prim.Native.Nat.{ℕ, ◌≤◌}
use native.Mathlib.Omega.{arith}
use lib.ListN.{length}
use Rattle.meaning.specs.Automaton.{Suffix, PrefixClosed, After, after}
use Rattle.meaning.proofs.Truth.{untrue}
use Rattle.meaning.proofs.Suffixes.{suffix_self, suffix_cons, suffix_nil, suffix_length, suffix_one}

module _ (state : List ℕ → Bool) where
  -- Some bytes that are a state are the state after them.
  pub after_self : (u : List ℕ) → So (state u) → after state u ≡ u
  unfolding after
  after_self [] h = refl
  after_self (x ∷ u) h = rw h

  -- Otherwise the first byte does not matter.
  pub after_tail : (x : ℕ) (u : List ℕ) → state (x ∷ u) ≡ false → after state (x ∷ u) ≡ after state u
  unfolding after
  after_tail x u h = rw h

  -- ── The longest suffix that is a state ──

  pub after_suffix : (t : List ℕ) → Suffix (after state t) t
  unfolding after
  after_suffix [] = suffix_self []
  after_suffix (x ∷ t) = go (state (x ∷ t)) (after_suffix t)
    where
      go : (v : Bool) → Suffix (after state t) t → Suffix (cond v (x ∷ t) (after state t)) (x ∷ t)
      go true ih = suffix_self (x ∷ t)
      go false ih = (suffix_cons (after state t) x t).1 (inr ih)

  -- Where some suffix is a state, a state is found, and that suffix is a suffix of it.
  pub after_found : (t s : List ℕ) → Suffix s t → So (state s) → So (state (after state t)) × Suffix s (after state t)
  unfolding after
  after_found [] s h k = (rw (suffix_nil h) at k, h)
  after_found (x ∷ t) s h k = go (state (x ∷ t)) refl (after_found t s)
    where
      go : (v : Bool) → state (x ∷ t) ≡ v → (Suffix s t → So (state s) → So (state (after state t)) × Suffix s (after state t))
          → So (state (cond v (x ∷ t) (after state t))) × Suffix s (cond v (x ∷ t) (after state t))
      go true e ih = (e, h)
      go false e ih = ⊎_elim
          (λ (p : s ≡ x ∷ t). absurd (false≢true (sym e ∙ ap state (sym p) ∙ k)))
          (λ p. ih p k)
          ((suffix_cons s x t).0 h)

  -- Every state that is a suffix of the bytes is a suffix of the state after them.
  pub after_longest : (t s : List ℕ) → Suffix s t → So (state s) → Suffix s (after state t)
  after_longest t s h k = (after_found t s h k).1

  pub after_state : So (state []) → (t : List ℕ) → So (state (after state t))
  after_state empty t = (after_found t [] (record { before = t; split = append-nil t }) empty).0

  -- The search finds the longest suffix that is a state, and no other bytes are that.
  pub after_is : So (state []) → (t : List ℕ) → After state t (after state t)
  after_is empty t = record {
    ends = after_suffix t;
    is = after_state empty t;
    longest = λ other h k. suffix_length (after_longest t other h k);
  }

  pub after_only : (t s : List ℕ) → After state t s → s ≡ after state t
  after_only t s h =
      let found = after_found t s h.ends h.is in
      let shorter : length (after state t) ≤ length s = h.longest (after state t) (after_suffix t) found.0 in
      suffix_one h.ends (after_suffix t) (omega (arith, suffix_length found.1))

  -- ── One byte more ──

  module _ (closed : PrefixClosed state) where
    -- Without its last byte a state is a state.
    pub one_shorter : (u : List ℕ) (a : ℕ) → So (state (u ++ a ∷ [])) → So (state u)
    one_shorter u a h = closed.shorter u (u ++ a ∷ []) (record { rest = a ∷ []; split = refl }) h

    -- What is no state goes on to none.
    pub no_longer : (u : List ℕ) (a : ℕ) → state u ≡ false → state (u ++ a ∷ []) ≡ false
    no_longer u a e = untrue _ (λ h. false≢true (sym e ∙ one_shorter u a h))

    -- The state after one byte more depends on the state and the byte alone.
    pub after_step : (t : List ℕ) (a : ℕ) → after state (t ++ a ∷ []) ≡ after state (after state t ++ a ∷ [])
    unfolding after
    after_step [] a = refl
    after_step (x ∷ t) a = go (state (x ∷ t)) refl (after_step t a)
      where
        go : (v : Bool) → state (x ∷ t) ≡ v → after state (t ++ a ∷ []) ≡ after state (after state t ++ a ∷ [])
            → after state (x ∷ (t ++ a ∷ [])) ≡ after state (cond v (x ∷ t) (after state t) ++ a ∷ [])
        go true e ih = refl
        go false e ih = after_tail x (t ++ a ∷ []) (no_longer (x ∷ t) a e) ∙ ih
