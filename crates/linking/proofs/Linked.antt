-- A child's failure is what the parent's failure steps to, and all that the step goes through has a smaller number: so each failure
-- that is written is the book's. Assumes nothing.
use mathlib.Core.Path.{◌≡◌, refl, sym, ap, ◌∙◌}
use mathlib.Core.Logic.{◌⊎◌, inl, inr, ⊎_elim}
use mathlib.Core.List.{List}
use Prim.Native.Nat.{ℕ, zero, suc, ◌+◌, ◌-◌, ◌*◌, ◌≤◌, ◌<◌}
use native.Mathlib.Nat.{le-suc_iff}
use native.Mathlib.Omega.{arith}
use lib.ListN.{length, get_or}
use Rattle.meaning.specs.Books.{Book, keywords}
use Rattle.format.specs.Limits.{All, Bytes}
use Rattle.lent.specs.Numbers.{with_number}
use Rattle.lent.specs.Zeros.{Zero}
use Rattle.lent.proofs.Numbers.{length_with_number, number_byte_apart, number_apart, number_written}
use Rattle.numbering.specs.States.{state_count, state_at, first_child, ChildOf, last_byte, failure_in}
use Rattle.numbering.specs.Walks.{Landed}
use Rattle.numbering.proofs.States.{count_some}
use Rattle.numbering.proofs.Children.{first_child_root, first_child_end, first_child_next, first_child_inside, child_above, child_inside}
use Rattle.numbering.proofs.Steps.{failure_in_smaller, failure_in_inside, failure_in_root, failure_in_root_child, failure_in_child}
use Rattle.tables.specs.Layout.{fail_at, child_at, room_for_states, label_of}
use Rattle.tables.specs.Reads.{Whole, label_in, fail_in, first_child_in, back_in}
use Rattle.tables.proofs.Parts.{number_zero}
use Rattle.stepping.specs.Steps.{children_end_in, next_in}
use Rattle.stepping.specs.Held.{HoldsStates, HoldsFailures}
use Rattle.stepping.proofs.Right.{children_end_right, back_right, next_right}
use Rattle.linking.specs.Failures.{failure_of_child, with_failure, with_failures, with_children_of, with_parents, linked}

-- The failures of the states below a number are filled in, and no other byte is changed.
pub record Sofar (book : Book) (tables : List ℕ) (below : ℕ) (t : List ℕ) : Type 0 where
  pub states : HoldsStates book t
  pub failures : HoldsFailures book t below
  pub kept : (k : ℕ) → (k < fail_at) ⊎ (fail_at + 2 * below ≤ k) → get_or t k 0 ≡ get_or tables k 0
  pub whole : length t ≡ length tables

module _ (book : Book) (bytes : All Bytes (keywords book.phrases)) (room : state_count book ≤ room_for_states) (tables : List ℕ) (size : Whole tables) where
  -- ── One failure more ──

  -- The failure of the next child is the book's.
  failure_right : (t : List ℕ) (parent child : ℕ) → 0 < parent → ChildOf book parent child → Sofar book tables child t
      → failure_of_child t (state_count book) parent child ≡ failure_in book child
  unfolding failure_of_child label_of
  failure_right t parent child p h sofar =
      let below : parent < child = child_above book bytes parent child h in
      let inside : child < state_count book = child_inside book bytes parent child h in
      let back : back_in t parent ≡ failure_in book parent = back_right book bytes t sofar.states child (omega arith) sofar.failures parent p below in
      let smaller : failure_in book parent < parent = failure_in_smaller book bytes parent p h.inside in
      ap (λ i. (next_in t (state_count book) i (label_in t child)).at) back
      ∙ ap (λ a. (next_in t (state_count book) (failure_in book parent) a).at) (sofar.states.labels child inside)
      ∙ ap (λ (l : Landed). l.at) (next_right book bytes t sofar.states child (omega arith) sofar.failures (failure_in book parent) (last_byte (state_at book child)) (omega arith))
      ∙ sym (failure_in_child book bytes parent child p h)

  written_further : (t : List ℕ) (child : ℕ) → child < state_count book → Sofar book tables child t → Sofar book tables (suc child) (with_number 2 t (fail_at + 2 * child) (failure_in book child))
  unfolding HoldsFailures
  written_further t child l sofar = record {
    states = record {
      labels = λ i h. number_byte_apart 2 t (fail_at + 2 * child) (failure_in book child) (6688 + i) (inl (omega arith)) ∙ sofar.states.labels i h;
      children = λ i h. number_apart 2 2 t (fail_at + 2 * child) (failure_in book child) (child_at + 2 * i) (inr (omega arith)) ∙ sofar.states.children i h;
    };
    failures = λ i h. ⊎_elim
        (λ (k : suc i ≤ child). number_apart 2 2 t (fail_at + 2 * child) (failure_in book child) (fail_at + 2 * i) (inl (omega arith)) ∙ sofar.failures i k)
        (λ (e : suc i ≡ suc child).
        let here : i ≡ child = omega arith in
        rw here (number_written 2 t (fail_at + 2 * child) (failure_in book child) (omega (arith, sofar.whole)) (omega (arith, failure_in_inside book bytes child))))
        (le-suc_iff.0 h);
    kept = λ k e. number_byte_apart 2 t (fail_at + 2 * child) (failure_in book child) k (apart k e) ∙ sofar.kept k (earlier k e);
    whole = length_with_number 2 t (fail_at + 2 * child) (failure_in book child) ∙ sofar.whole;
  }
    where
      apart : (k : ℕ) → (k < fail_at) ⊎ (fail_at + 2 * suc child ≤ k) → (k + 1 ≤ fail_at + 2 * child) ⊎ (fail_at + 2 * child + 2 ≤ k)
      apart k (inl e) = inl (omega arith)
      apart k (inr e) = inr (omega arith)

      earlier : (k : ℕ) → (k < fail_at) ⊎ (fail_at + 2 * suc child ≤ k) → (k < fail_at) ⊎ (fail_at + 2 * child ≤ k)
      earlier k (inl e) = inl e
      earlier k (inr e) = inr (omega arith)

  child_further : (t : List ℕ) (parent child : ℕ) → 0 < parent → ChildOf book parent child → Sofar book tables child t
      → Sofar book tables (suc child) (with_failure t (state_count book) parent child)
  unfolding with_failure
  child_further t parent child p h sofar = rw (failure_right t parent child p h sofar) (written_further t child (child_inside book bytes parent child h) sofar)

  -- ── The children of a state, and all of them ──

  children_further : (t : List ℕ) (parent : ℕ) → 0 < parent → parent < state_count book → Sofar book tables (first_child book parent) t → (n : ℕ)
      → first_child book parent + n ≤ first_child book (parent + 1) → Sofar book tables (first_child book parent + n) (with_failures t (state_count book) parent (first_child book parent) n)
  unfolding with_failures
  children_further t parent p l sofar zero h = let e : first_child book parent + 0 ≡ first_child book parent = omega arith in rw e sofar
  children_further t parent p l sofar (suc n) h =
      let e : first_child book parent + suc n ≡ suc (first_child book parent + n) = omega arith in
      rw e
      (child_further (with_failures t (state_count book) parent (first_child book parent) n) parent (first_child book parent + n) p
      (record { inside = l; low = omega arith; high = omega arith }) (children_further t parent p l sofar n (omega arith)))

  -- The children of a state stand together, and the next state's follow.
  parent_further : (t : List ℕ) (parent : ℕ) → 0 < parent → parent < state_count book
      → Sofar book tables (first_child book parent) t → Sofar book tables (first_child book (parent + 1)) (with_children_of t (state_count book) parent)
  unfolding with_children_of
  parent_further t parent p l sofar =
      let up : first_child book parent ≤ first_child book (parent + 1) = omega (arith, first_child_next book bytes parent l) in
      let from : first_child_in t parent ≡ first_child book parent = sofar.states.children parent (omega arith) in
      let end : children_end_in t (state_count book) parent ≡ first_child book (parent + 1) = children_end_right book bytes t sofar.states parent l in
      let all : first_child book parent + (first_child book (parent + 1) - first_child book parent) ≡ first_child book (parent + 1) = omega arith in
      rw (from, end) (rw all at (children_further t parent p l sofar (first_child book (parent + 1) - first_child book parent) (omega arith)))

  module _ (held : HoldsStates book tables) (zero-failures : Zero fail_at child_at tables) where
    -- Zero memory says that the root and its children fail to the root.
    begun : Sofar book tables (first_child book 1) tables
    unfolding HoldsFailures
    begun = record { states = held; failures = λ i l. none i l ∙ sym (root i l); kept = λ k e. refl; whole = refl }
      where
        none : (i : ℕ) → i < first_child book 1 → fail_in tables i ≡ 0
        none i l = number_zero 2 tables (fail_at + 2 * i) (λ k a b. zero-failures k (omega arith) (omega (arith, first_child_inside book bytes 1)))

        root : (i : ℕ) → i < first_child book 1 → failure_in book i ≡ 0
        root zero l = failure_in_root book bytes
        root (suc i) l = failure_in_root_child book bytes (suc i) (record { inside = count_some book; low = omega (arith, first_child_root book bytes); high = l })

    parents_further : (n : ℕ) → n < state_count book → Sofar book tables (first_child book (n + 1)) (with_parents tables (state_count book) n)
    unfolding with_parents
    parents_further zero l = begun
    parents_further (suc n) l =
        let e : suc n + 1 ≡ n + 1 + 1 = omega arith in
        rw e (parent_further (with_parents tables (state_count book) n) (n + 1) (omega arith) (omega arith) (parents_further n (omega arith)))

    -- All failures are filled in.
    pub linked_right : Sofar book tables (state_count book) (linked tables (state_count book))
    unfolding linked
    linked_right =
        let last : state_count book - 1 + 1 ≡ state_count book = omega (arith, count_some book) in
        rw (last, first_child_end book bytes) at (parents_further (state_count book - 1) (omega (arith, count_some book)))
