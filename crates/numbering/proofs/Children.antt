-- The children of a state by their numbers: they stand together in the book's list, so two neighbouring first children tell them all.
-- Assumes nothing.
use mathlib.Core.Path.{◌≡◌, refl, sym, ap, ◌∙◌}
use mathlib.Core.Logic.{◌↔◌, ⊎_elim}
use mathlib.Core.Bool.{Bool, true, false, So}
use mathlib.Core.List.{[], ◌∷◌, ◌++◌}
use Prim.Native.Nat.{ℕ, zero, suc, ◌+◌, ◌≤◌, ◌<◌}
use native.Mathlib.Numerals.{add-one}
use native.Mathlib.Omega.{arith}
use lib.ListN.{length, get_or}
use Rattle.meaning.specs.Books.{Book, keywords}
use Rattle.meaning.specs.Automaton.{is_state, parent}
use Rattle.meaning.proofs.Truth.{untrue}
use Rattle.meaning.proofs.Depth.{parent_snoc}
use Rattle.format.specs.Limits.{All, Bytes}
use Rattle.format.specs.Prefixes.{prefix_count}
use Rattle.format.proofs.Tests.{less_or_not}
use Rattle.numbering.specs.Listed.{onward, children_from}
use Rattle.numbering.specs.States.{byte_values, states_of, state_count, state_at, number_in, first_child, ChildOf, last_byte, child_by}
use Rattle.numbering.proofs.Order.{last_byte_snoc}
use Rattle.numbering.proofs.Keywords.{state_byte}
use Rattle.numbering.proofs.Listed.{length_grows}
use Rattle.numbering.proofs.ListedChildren.{children_above, children_next, children_first, children_last, child_string, child_is, children_ascend, child_there}
use Rattle.numbering.proofs.States.{state_at_empty, state_at_state, state_at_once, state_at_number, number_is}
use Rattle.numbering.proofs.Count.{states_complete, listed_at_most, count_right}

module _ (book : Book) (bytes : All Bytes (keywords book.phrases)) where
  abbrev turns : ℕ
  turns = suc (prefix_count (keywords book.phrases))

  -- ── First children ──

  -- The children of the empty state come next after it.
  pub first_child_root : first_child book 0 ≡ 1
  unfolding first_child
  first_child_root = children_first (is_state book) byte_values turns (states_complete book bytes)

  -- After the last state there is no child.
  pub first_child_end : first_child book (state_count book) ≡ state_count book
  unfolding first_child state_count states_of
  first_child_end = children_last (is_state book) byte_values turns (states_complete book bytes)

  -- A state comes before all its children.
  pub first_child_above : (i : ℕ) → i < state_count book → i < first_child book i
  unfolding first_child state_count states_of
  first_child_above = children_above (is_state book) byte_values turns (states_complete book bytes)

  -- The children of a later state begin no earlier.
  pub first_child_grows : (i j : ℕ) → i ≤ j → first_child book i ≤ first_child book j
  unfolding first_child children_from
  first_child_grows = length_grows (is_state book) byte_values

  -- A state has as many children as bytes that lead on from it.
  pub first_child_next : (i : ℕ) → i < state_count book
      → first_child book (i + 1) ≡ first_child book i + length (onward (is_state book) byte_values (state_at book i))
  unfolding first_child state_at state_count states_of
  first_child_next i l = rw add-one (children_next (is_state book) byte_values turns (states_complete book bytes) i l)

  -- Children begin at a state or at the end.
  pub first_child_inside : (i : ℕ) → first_child book i ≤ state_count book
  unfolding first_child children_from
  first_child_inside i = omega (arith, listed_at_most book i, count_right book bytes)

  -- The child with the k-th of those bytes has the k-th number.
  pub first_child_string : (i k : ℕ) → i < state_count book → k < length (onward (is_state book) byte_values (state_at book i))
      → state_at book (first_child book i + k) ≡ state_at book i ++ get_or (onward (is_state book) byte_values (state_at book i)) k 0 ∷ []
  unfolding first_child state_at state_count states_of
  first_child_string = child_string (is_state book) byte_values turns (states_complete book bytes)

  -- ── A child and its parent ──

  -- A child's number is above its parent's.
  pub child_above : (i c : ℕ) → ChildOf book i c → i < c
  child_above i c h = omega (arith, first_child_above i h.inside)

  -- It is a state's number.
  pub child_inside : (i c : ℕ) → ChildOf book i c → c < state_count book
  child_inside i c h = omega (arith, first_child_inside (i + 1))

  -- Its string is its parent's and its own last byte.
  pub child_snoc : (i c : ℕ) → ChildOf book i c → state_at book c ≡ state_at book i ++ last_byte (state_at book c) ∷ []
  unfolding first_child state_at state_count states_of
  child_snoc i c h = child_is (is_state book) byte_values turns (states_complete book bytes) i c h.inside h.low (rw add-one at h.high)

  -- The children of a state come in the order of their last bytes.
  pub child_ascends : (i c d : ℕ) → ChildOf book i c → ChildOf book i d → c < d → last_byte (state_at book c) < last_byte (state_at book d)
  unfolding first_child state_at state_count states_of
  child_ascends i c d h k l =
      children_ascend (is_state book) byte_values turns (states_complete book bytes) i c d h.inside h.low l (rw add-one at k.high)

  -- Two parents of one child are one.
  pub child_one_parent : (i j c : ℕ) → ChildOf book i c → ChildOf book j c → i ≡ j
  child_one_parent i j c h k =
      let a : ℕ = last_byte (state_at book c) in
      let e : state_at book i ++ a ∷ [] ≡ state_at book j ++ a ∷ [] = sym (child_snoc i c h) ∙ child_snoc j c k in
      state_at_once book i j h.inside k.inside (sym (parent_snoc (state_at book i) a) ∙ ap parent e ∙ parent_snoc (state_at book j) a)

  -- Every state but the empty one is a child.
  pub child_parent : (c : ℕ) → 0 < c → c < state_count book → (i : ℕ) × ChildOf book i c
  child_parent c p l = go (state_count book) (omega arith) (rw first_child_end l)
    where
      go : (n : ℕ) → n ≤ state_count book → c < first_child book n → (i : ℕ) × ChildOf book i c
      go zero h k = absurd (omega (arith, first_child_root))
      go (suc n) h k = ⊎_elim
          (λ (low : c < first_child book n). go n (omega arith) low)
          (λ (low : first_child book n ≤ c). (n, record { inside = h; low = low; high = rw add-one k }))
          (less_or_not c (first_child book n))

  -- The last byte of every state is a byte.
  pub last_byte_below : (c : ℕ) → c < state_count book → last_byte (state_at book c) < byte_values
  unfolding last_byte
  last_byte_below zero l = rw (state_at_empty book) (omega arith)
  last_byte_below (suc c) l =
      let r = child_parent (suc c) (omega arith) l in
      let a : ℕ = last_byte (state_at book (suc c)) in
      state_byte book bytes (state_at book r.0) a (rw (child_snoc r.0 (suc c) r.1) at (state_at_state book bytes (suc c) l))

  -- ── The child by a byte ──

  found : (i a : ℕ) → i < state_count book → So (is_state book (state_at book i ++ a ∷ []))
      → (c : ℕ) × ChildOf book i c × (state_at book c ≡ state_at book i ++ a ∷ [])
  unfolding first_child state_at state_count states_of
  found i a l h =
      let r = child_there (is_state book) byte_values turns (states_complete book bytes) i a l h in
      (r.0, record { inside = l; low = r.1; high = rw add-one r.2 }, r.3)

  -- A byte that leads from i to a state leads to a child of i.
  pub child_number : (i a : ℕ) → i < state_count book → So (is_state book (state_at book i ++ a ∷ []))
      → ChildOf book i (number_in book (state_at book i ++ a ∷ []))
  child_number i a l h =
      let r = found i a l h in
      rw (number_is book bytes (state_at book i ++ a ∷ []) r.0 (child_inside i r.0 r.1) r.2) r.1

  -- The child by a byte has the number of the state that the byte leads to.
  pub child_by_state : (i a : ℕ) → So (is_state book (state_at book i ++ a ∷ [])) → child_by book i a ≡ number_in book (state_at book i ++ a ∷ [])
  unfolding child_by
  child_by_state i a h = rw h

  -- There is no child by a byte exactly when it leads to no state.
  pub child_by_none : (i a : ℕ) → i < state_count book → (child_by book i a ≡ 0) ↔ (is_state book (state_at book i ++ a ∷ []) ≡ false)
  unfolding child_by
  child_by_none i a l = (
    λ e. untrue (is_state book (state_at book i ++ a ∷ [])) (λ h.
        let above : i < number_in book (state_at book i ++ a ∷ []) = child_above i (number_in book (state_at book i ++ a ∷ [])) (child_number i a l h) in
        omega (arith, e, child_by_state i a h, above)),
    λ h. rw h,
  )

  -- The children of i are found by their last bytes,
  pub child_by_found : (i c : ℕ) → ChildOf book i c → child_by book i (last_byte (state_at book c)) ≡ c
  child_by_found i c h =
      let a : ℕ = last_byte (state_at book c) in
      let e : state_at book c ≡ state_at book i ++ a ∷ [] = child_snoc i c h in
      let l : c < state_count book = child_inside i c h in
      child_by_state i a (rw e at (state_at_state book bytes c l)) ∙ number_is book bytes (state_at book i ++ a ∷ []) c l e

  -- and a byte that is the last of none of them has no child.
  pub child_by_missing : (i a : ℕ) → i < state_count book → ((c : ℕ) → ChildOf book i c → last_byte (state_at book c) ≡ a → ⊥)
      → child_by book i a ≡ 0
  child_by_missing i a l none = (child_by_none i a l).1 (untrue (is_state book (state_at book i ++ a ∷ []))
      (λ h. let r = found i a l h in none r.0 r.1 (ap last_byte r.2 ∙ last_byte_snoc (state_at book i) a)))

  -- What is found is a child by that byte.
  pub child_by_child : (i a : ℕ) → i < state_count book → (child_by book i a ≡ 0 → ⊥)
      → ChildOf book i (child_by book i a) × (state_at book (child_by book i a) ≡ state_at book i ++ a ∷ [])
  child_by_child i a l some = go (is_state book (state_at book i ++ a ∷ [])) refl
    where
      go : (v : Bool) → is_state book (state_at book i ++ a ∷ []) ≡ v
          → ChildOf book i (child_by book i a) × (state_at book (child_by book i a) ≡ state_at book i ++ a ∷ [])
      go true h = rw (child_by_state i a h) (child_number i a l h, state_at_number book bytes (state_at book i ++ a ∷ []) h)
      go false h = absurd (some ((child_by_none i a l).1 h))
