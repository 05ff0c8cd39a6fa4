-- Failures and steps by number: tables that give a book's children and failures let a walk come to the book's next state.
-- Assumes nothing.
use mathlib.Core.Path.{◌≡◌, refl, sym, ap, ap₂, ◌∙◌}
use mathlib.Core.Bool.{So}
use mathlib.Core.List.{List, [], ◌∷◌, ◌++◌}
use Prim.Native.Nat.{ℕ, suc, ◌≤◌, ◌<◌}
use native.Mathlib.Omega.{arith}
use Rattle.meaning.specs.Books.{Book, keywords}
use Rattle.meaning.specs.Automaton.{is_state, after, failure}
use Rattle.meaning.proofs.After.{after_state}
use Rattle.meaning.proofs.Failures.{failure_child}
use Rattle.meaning.proofs.States.{is_state_closed}
use Rattle.format.specs.Limits.{All, Bytes}
use Rattle.format.specs.Prefixes.{prefix_count}
use Rattle.numbering.specs.States.{byte_values, states_of, state_count, state_at, number_in, ChildOf, last_byte, child_by, failure_in, step_by}
use Rattle.numbering.specs.Walks.{Landed, walk, UpTo, Lands}
use Rattle.numbering.proofs.Count.{states_complete}
use Rattle.numbering.proofs.ListedNumbers.{failure_state, failure_smaller}
use Rattle.numbering.proofs.States.{count_some, state_at_empty, state_at_only_empty, state_at_state, number_below, state_at_number, number_is, number_empty}
use Rattle.numbering.proofs.Children.{child_inside, child_snoc, child_by_child, child_by_none}
use Rattle.numbering.proofs.Walks.{walk_right}

module _ (book : Book) (bytes : All Bytes (keywords book.phrases)) where
  -- ── Failures ──

  -- A failure has a smaller number than its state.
  pub failure_in_smaller : (i : ℕ) → 0 < i → i < state_count book → failure_in book i < i
  unfolding failure_in number_in state_at state_count states_of
  failure_in_smaller = failure_smaller (is_state book) byte_values (suc (prefix_count (keywords book.phrases))) (states_complete book bytes)

  is_state_lem : (u : List ℕ) → So (is_state book (failure (is_state book) u))
  is_state_lem = failure_state (is_state book) byte_values (suc (prefix_count (keywords book.phrases))) (states_complete book bytes)

  -- It is a state's number, and that state is the failure.
  pub failure_in_inside : (i : ℕ) → failure_in book i < state_count book
  unfolding failure_in
  failure_in_inside i = number_below book bytes (failure (is_state book) (state_at book i)) (is_state_lem (state_at book i))

  pub failure_in_string : (i : ℕ) → state_at book (failure_in book i) ≡ failure (is_state book) (state_at book i)
  unfolding failure_in
  failure_in_string i = state_at_number book bytes (failure (is_state book) (state_at book i)) (is_state_lem (state_at book i))

  -- The empty state is given itself.
  pub failure_in_root : failure_in book 0 ≡ 0
  unfolding failure_in failure
  failure_in_root = rw (state_at_empty book) (number_empty book bytes)

  -- ── Steps ──

  next_state : (i a : ℕ) → So (is_state book (after (is_state book) (state_at book i ++ a ∷ [])))
  next_state i a = after_state (is_state book) (is_state_closed book).empty (state_at book i ++ a ∷ [])

  -- A step comes to a state's number, and that state is the next one.
  pub step_by_inside : (i a : ℕ) → (step_by book i a).at < state_count book
  unfolding step_by
  step_by_inside i a = number_below book bytes (after (is_state book) (state_at book i ++ a ∷ [])) (next_state i a)

  pub step_by_string : (i a : ℕ) → state_at book (step_by book i a).at ≡ after (is_state book) (state_at book i ++ a ∷ [])
  unfolding step_by
  step_by_string i a = state_at_number book bytes (after (is_state book) (state_at book i ++ a ∷ [])) (next_state i a)

  -- The failure of a child is what its parent's failure steps to; a child of the empty state fails to the empty state.
  pub failure_in_root_child : (c : ℕ) → ChildOf book 0 c → failure_in book c ≡ 0
  unfolding failure_in failure after
  failure_in_root_child c h =
      let e : state_at book c ≡ last_byte (state_at book c) ∷ [] = child_snoc book bytes 0 c h ∙ rw (state_at_empty book) refl in
      rw e (number_empty book bytes)

  pub failure_in_child : (i c : ℕ) → 0 < i → ChildOf book i c → failure_in book c ≡ (step_by book (failure_in book i) (last_byte (state_at book c))).at
  unfolding step_by failure_in
  failure_in_child i c p h = go (state_at book i) refl
    where
      a : ℕ
      a = last_byte (state_at book c)

      go : (u : List ℕ) → state_at book i ≡ u → failure_in book c ≡ number_in book (after (is_state book) (state_at book (failure_in book i) ++ a ∷ []))
      go [] e = absurd (omega (arith, state_at_only_empty book i h.inside e))
      go (x ∷ u) e =
          let s : state_at book c ≡ x ∷ u ++ a ∷ [] = child_snoc book bytes i c h ∙ ap {B = List ℕ} (λ v. v ++ a ∷ []) e in
          let t : state_at book (failure_in book i) ≡ failure (is_state book) (x ∷ u) = failure_in_string i ∙ ap (failure (is_state book)) e in
          ap (λ v. number_in book (failure (is_state book) v)) s
          ∙ ap (number_in book) (failure_child (is_state book) (is_state_closed book) x u a)
          ∙ ap (λ v. number_in book (after (is_state book) (v ++ a ∷ []))) (sym t)

  -- ── The walk ──

  module _ (child : ℕ → ℕ → ℕ) (fail : ℕ → ℕ) (f : ℕ) (inside : f ≤ state_count book)
      (children : (i a : ℕ) → i < state_count book → child i a ≡ child_by book i a)
      (failures : (i : ℕ) → 0 < i → i < f → fail i ≡ failure_in book i) where
    has_child : (i a : ℕ) → i < state_count book → (child_by book i a ≡ 0 → ⊥)
        → (child_by book i a < state_count book) × (state_at book (child_by book i a) ≡ state_at book i ++ a ∷ [])
    has_child i a l c = let r = child_by_child book bytes i a l c in (child_inside book bytes i (child_by book i a) r.0, r.1)

    known : UpTo (is_state book) (state_at book) child fail (state_count book) f
    known = record {
      some = count_some book;
      empty = state_at_empty book;
      only_empty = state_at_only_empty book;
      states = state_at_state book bytes;
      has_child = λ i a l c. rw (children i a l) (has_child i a l (rw (children i a l) at c));
      no_child = λ i a l c. (child_by_none book bytes i a l).0 (sym (children i a l) ∙ c);
      inside = inside;
      fails = λ i p l. rw (failures i p l) (failure_in_smaller i p (omega arith), failure_in_string i);
    }

    -- Where children are right for all states, and failures for those below f, a walk from a state below f is the book's step.
    pub walk_steps : (fuel i a : ℕ) → i < fuel → i < f → walk child fail fuel i a ≡ step_by book i a
    unfolding step_by
    walk_steps fuel i a l h =
        let r : Lands (is_state book) (state_at book) (state_count book) (state_at book i) a (walk child fail fuel i a)
        = walk_right (is_state book) (state_at book) child fail (state_count book) f (is_state_closed book) known fuel i a l h in
        let next : List ℕ = after (is_state book) (state_at book i ++ a ∷ []) in
        let e : number_in book next ≡ (walk child fail fuel i a).at = number_is book bytes next _ r.inside r.next in
        ap₂ {C = Landed} (λ at taken. record { at = at; taken = taken }) (sym e) r.counted
