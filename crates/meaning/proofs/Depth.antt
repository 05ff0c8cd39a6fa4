-- The steps are paid for by depth: a step gives one up, and a byte adds at most one, so a letter costs at most a step for each byte.
-- Assumes nothing.
use mathlib.Core.Path.{◌≡◌, refl, ap}
use mathlib.Core.Logic.{◌⊎◌, inl, inr, ⊎_elim}
use mathlib.Core.Bool.{Bool, true, false, So, cond, and-false, and-true}
use mathlib.Core.List.{List, [], ◌∷◌, ◌++◌}
use Prim.Native.Nat.{ℕ, zero, suc, ◌+◌, ◌≤◌}
use native.Mathlib.Omega.{arith}
use lib.ListN.{length, take, get_or}
use lib.Seq.{take-suc}
use Rattle.meaning.specs.Books.{Book}
use Rattle.meaning.specs.Automaton.{is_state, PrefixClosed, after, failure, steps_for, steps_up_to, steps, depth, parent}
use Rattle.meaning.proofs.After.{after_self, after_tail, after_step, one_shorter}
use Rattle.meaning.proofs.States.{is_state_closed}
use Rattle.meaning.proofs.Steps.{steps_root, steps_forward, steps_back}

-- ── The parent ──

pub parent_snoc : (u : List ℕ) (a : ℕ) → parent (u ++ a ∷ []) ≡ u
unfolding parent
parent_snoc [] a = refl
parent_snoc (x ∷ []) a = refl
parent_snoc (x ∷ y ∷ u) a = ap {B = List ℕ} (λ l. x ∷ l) (parent_snoc (y ∷ u) a)

-- Some bytes are empty, or they are some bytes and a last one.
last_byte_lem : (u : List ℕ) → (u ≡ []) ⊎ ((w : List ℕ) × (a : ℕ) × (u ≡ w ++ a ∷ []))
last_byte_lem [] = inl refl
last_byte_lem (x ∷ u) = inr (⊎_elim
    (λ (e : u ≡ []). ([], x, ap {B = List ℕ} (λ l. x ∷ l) e))
    (λ r. (x ∷ r.0, r.1, ap {B = List ℕ} (λ l. x ∷ l) r.2))
    (last_byte_lem u))

-- ── The depth ──

-- What a test counts, one or nothing.
one_at_most : (v : Bool) → cond {A = ℕ} v 1 0 ≤ 1
one_at_most true = omega arith
one_at_most false = omega arith

one_where : (v w : Bool) → (So v → So w) → cond {A = ℕ} v 1 0 ≤ cond w 1 0
one_where true w h = rw (h refl) (omega arith)
one_where false w h = omega arith

module _ (state : List ℕ → Bool) where
  -- The depth of some bytes counts them, if they are a state, and then what follows their first byte.
  pub depth_nil : depth state [] ≡ 0
  unfolding depth
  depth_nil = rw and-false

  pub depth_cons : (x : ℕ) (u : List ℕ) → depth state (x ∷ u) ≡ cond (state (x ∷ u)) 1 0 + depth state u
  unfolding depth
  depth_cons x u = rw and-true

  -- Bytes are as deep as the state after them.
  pub depth_after : (u : List ℕ) → depth state (after state u) ≡ depth state u
  unfolding after
  depth_after [] = refl
  depth_after (x ∷ u) = go (state (x ∷ u)) refl (depth_after u)
    where
      go : (v : Bool) → state (x ∷ u) ≡ v → depth state (after state u) ≡ depth state u
          → depth state (cond v (x ∷ u) (after state u)) ≡ depth state (x ∷ u)
      go true e ih = refl
      go false e ih = rw (depth_cons x u, e) (omega arith)

  -- A failure gives up one.
  pub depth_failure : (x : ℕ) (u : List ℕ) → So (state (x ∷ u)) → depth state (x ∷ u) ≡ suc (depth state (failure state (x ∷ u)))
  unfolding failure
  depth_failure x u h = rw (depth_cons x u, h) (omega (arith, depth_after u))

  root_parent : (a : ℕ) → parent (after state (a ∷ [])) ≡ []
  unfolding after parent
  root_parent a = go (state (a ∷ []))
    where
      go : (v : Bool) → parent (cond v (a ∷ []) []) ≡ []
      go true = refl
      go false = refl

  module _ (closed : PrefixClosed state) where
    -- The steps of a byte are what the depth falls by, from the state to the parent of the next state.
    pub steps_depth : (u : List ℕ) (a : ℕ) → steps_for state u a + depth state (parent (after state (u ++ a ∷ []))) ≡ depth state u
    steps_depth [] a = rw (steps_root state a, root_parent a) (omega arith)
    steps_depth (x ∷ u) a = go (state (x ∷ u ++ a ∷ [])) refl (steps_depth u a)
      where
        go : (v : Bool) → state (x ∷ u ++ a ∷ []) ≡ v
            → steps_for state u a + depth state (parent (after state (u ++ a ∷ []))) ≡ depth state u
            → steps_for state (x ∷ u) a + depth state (parent (after state (x ∷ u ++ a ∷ []))) ≡ depth state (x ∷ u)
        go true e ih =
            let h : So (state (x ∷ u)) = one_shorter state closed (x ∷ u) a e in
            rw (after_self state (x ∷ u ++ a ∷ []) e, parent_snoc (x ∷ u) a, steps_forward state (x ∷ u) a h e) (omega arith)
        go false e ih = rw (after_tail state x (u ++ a ∷ []) e, steps_back state x u a e, depth_cons) (omega arith)

    -- A byte adds at most one.
    pub depth_snoc : (u : List ℕ) (a : ℕ) → depth state (u ++ a ∷ []) ≤ depth state u + 1
    depth_snoc [] a = rw (depth_cons a []) (omega (arith, one_at_most (state (a ∷ []))))
    depth_snoc (x ∷ u) a =
        rw (depth_cons x (u ++ a ∷ []), depth_cons x u)
        (omega (arith, depth_snoc u a, one_where (state (x ∷ u ++ a ∷ [])) (state (x ∷ u)) (one_shorter state closed (x ∷ u) a)))

    -- So without the last byte it falls by at most one.
    pub depth_parent : (u : List ℕ) → depth state u ≤ depth state (parent u) + 1
    depth_parent u = ⊎_elim
        (λ (e : u ≡ []). rw (e, depth_nil) (omega arith))
        (λ r. rw (r.2, parent_snoc r.0 r.1) (depth_snoc r.0 r.1))
        (last_byte_lem u)

    -- The steps for the first n bytes, and the depth of the state after them, are together at most n.
    pub steps_paid : (letter : List ℕ) (n : ℕ) → n ≤ length letter
        → steps_up_to state letter n + depth state (after state (take n letter)) ≤ n
    unfolding steps_up_to after
    steps_paid letter zero h = rw depth_nil (omega arith)
    steps_paid letter (suc n) h =
        rw (take-suc letter n 0, after_step state closed (take n letter) (get_or letter n 0))
        (omega (
          arith,
          steps_paid letter n (omega arith),
          steps_depth (after state (take n letter)) (get_or letter n 0),
          depth_parent (after state (after state (take n letter) ++ get_or letter n 0 ∷ [])),
        ))

-- The steps of a letter never exceed its length.
pub steps_at_most : (book : Book) (letter : List ℕ) → steps book letter ≤ length letter
unfolding steps
steps_at_most book letter = omega (arith, steps_paid (is_state book) (is_state_closed book) letter (length letter) (omega arith))
