-- The children of a state stand together, and every state but the root is a child: so each gets its gain from its own parent.
-- Assumes nothing.
use mathlib.Core.Path.{◌≡◌, refl, sym, ap, ◌∙◌}
use mathlib.Core.Logic.{◌⊎◌, inl, inr, ⊎_elim}
use mathlib.Core.Bool.{Bool, true, false, cond}
use mathlib.Core.List.{List}
use Prim.Native.Nat.{ℕ, zero, suc, ◌+◌, ◌-◌, ◌≤◌, ◌<◌}
use native.Mathlib.Nat.{le-suc_iff}
use native.Mathlib.Numerals.{add-one}
use native.Mathlib.Omega.{arith}
use lib.ListN.{length, get_or, length-set}
use lib.Seq.{get_or-set_same, get_or-set_other}
use Rattle.meaning.specs.Books.{Book, keywords}
use Rattle.meaning.specs.Automaton.{is_state, depth, parent, nonempty}
use Rattle.meaning.proofs.Depth.{parent_snoc}
use Rattle.format.specs.Limits.{All, Bytes, Within}
use Rattle.numbering.specs.States.{state_count, state_at, first_child, ChildOf, last_byte}
use Rattle.numbering.proofs.Keywords.{within_bytes}
use Rattle.numbering.proofs.States.{count_some, state_at_empty}
use Rattle.numbering.proofs.Children.{first_child_root, first_child_end, first_child_next, first_child_inside, child_inside, child_snoc}
use Rattle.tables.specs.Endings.{endings}
use Rattle.tables.specs.Layout.{info_at, depth_at, room_for_states, depth_of, gain_of, ending_mark, info_of}
use Rattle.tables.specs.Reads.{Whole, info_in, depth_in, first_child_in}
use Rattle.tables.proofs.Fits.{fits}
use Rattle.tables.proofs.Fast.{gain_depth, gain_few}
use Rattle.stepping.specs.Steps.{children_end_in}
use Rattle.stepping.specs.Held.{HoldsStates}
use Rattle.stepping.proofs.Right.{children_end_right}
use Rattle.stepping.proofs.Kept.{states_kept}
use Rattle.depths.specs.Depths.{info_for, with_gain, with_gains, with_gains_of, with_gains_below}

mark_small : (book : Book) (i : ℕ) → ending_mark book i ≤ 128
unfolding ending_mark
mark_small book i = go (nonempty (endings book (state_at book i)))
  where
    go : (v : Bool) → cond {A = ℕ} v 128 0 ≤ 128
    go true = omega arith
    go false = omega arith

info_sum : (book : Book) (i : ℕ) → info_of book i ≡ gain_of book i + ending_mark book i
unfolding info_of
info_sum book i = refl

-- The empty state is its own parent.
root_parent : (book : Book) → depth_of book 0 ≡ depth (is_state book) (parent (state_at book 0))
unfolding depth_of parent
root_parent book = rw (state_at_empty book) refl

-- The depths are the book's, and each info has its mark alone.
pub record Marked (book : Book) (t : List ℕ) : Type 0 where
  pub whole : Whole t
  pub states : HoldsStates book t
  pub depths : (i : ℕ) → i < state_count book → depth_in t i ≡ depth_of book i
  pub infos : (i : ℕ) → i < state_count book → info_in t i ≡ ending_mark book i

module _ (book : Book) (within : Within book) (before : List ℕ) (marked : Marked book before) where
  bytes : All Bytes (keywords book.phrases)
  bytes = within_bytes book within

  room : state_count book ≤ room_for_states
  room = (fits book within).states

  -- The states below a number have their gains, and no other byte is changed.
  pub record Gained (n : ℕ) (t : List ℕ) : Type 0 where
    pub infos : (i : ℕ) → i < n → info_in t i ≡ info_of book i
    pub kept : (k : ℕ) → (k < info_at) ⊎ (info_at + n ≤ k) → get_or t k 0 ≡ get_or before k 0
    pub whole : length t ≡ length before

  -- ── One state ──

  -- Its own mark stands there, and what is added is its gain.
  info_is : (from n : ℕ) (t : List ℕ) → from < state_count book → n < state_count book → depth_of book from ≡ depth (is_state book) (parent (state_at book n))
      → Gained n t → info_for t from n ≡ info_of book n
  unfolding info_for
  info_is from n t f l up done =
      omega (arith, info, deep from f, deep n l, info_sum book n, up, gain_depth book within n, gain_few book within n l, mark_small book n)
    where
      info : info_in t n ≡ ending_mark book n
      info = done.kept (info_at + n) (inr (omega arith)) ∙ marked.infos n l

      deep : (i : ℕ) → i < state_count book → depth_in t i ≡ depth_of book i
      deep i k = done.kept (depth_at + i) (inr (omega (arith, room))) ∙ marked.depths i k

  gained_further : (from n : ℕ) (t : List ℕ) → from < state_count book → n < state_count book → depth_of book from ≡ depth (is_state book) (parent (state_at book n))
      → Gained n t → Gained (suc n) (with_gain t from n)
  unfolding with_gain
  gained_further from n t f l up done = rw (info_is from n t f l up done) (record {
    infos = λ i k. ⊎_elim
        (λ (e : suc i ≤ n). get_or-set_other t (info_at + n) (info_at + i) (info_of book n) 0 (λ z. omega arith) ∙ done.infos i e)
        (λ (e : suc i ≡ suc n). let z : i ≡ n = omega arith in rw z (get_or-set_same t (info_at + n) (info_of book n) 0 (omega (arith, done.whole, marked.whole, room))))
        (le-suc_iff.0 k);
    kept = λ k e. get_or-set_other t (info_at + n) k (info_of book n) 0 (apart k e) ∙ done.kept k (earlier k e);
    whole = length-set t (info_at + n) (info_of book n) ∙ done.whole;
  })
    where
      apart : (k : ℕ) → (k < info_at) ⊎ (info_at + suc n ≤ k) → k ≡ info_at + n → ⊥
      apart k (inl e) z = omega arith
      apart k (inr e) z = omega arith

      earlier : (k : ℕ) → (k < info_at) ⊎ (info_at + suc n ≤ k) → (k < info_at) ⊎ (info_at + n ≤ k)
      earlier k (inl e) = inl e
      earlier k (inr e) = inr (omega arith)

  -- The root is its own parent.
  root_gained : Gained 1 (with_gain before 0 0)
  root_gained = gained_further 0 0 before (count_some book) (count_some book) (root_parent book) (record { infos = λ i l. absurd (omega arith); kept = λ k e. refl; whole = refl })

  child_gained : (i child : ℕ) (t : List ℕ) → ChildOf book i child → Gained child t → Gained (suc child) (with_gain t i child)
  unfolding depth_of
  child_gained i child t h done =
      gained_further i child t h.inside (child_inside book bytes i child h)
      (ap (depth (is_state book)) (sym (ap parent (child_snoc book bytes i child h) ∙ parent_snoc (state_at book i) (last_byte (state_at book child)))))
      done

  -- ── The children of a state, and all of them ──

  children_gained : (i : ℕ) (t : List ℕ) → i < state_count book → Gained (first_child book i) t → (n : ℕ)
      → first_child book i + n ≤ first_child book (i + 1) → Gained (first_child book i + n) (with_gains t i (first_child book i) n)
  unfolding with_gains
  children_gained i t l done zero h = let e : first_child book i + 0 ≡ first_child book i = omega arith in rw e done
  children_gained i t l done (suc n) h =
      let e : first_child book i + suc n ≡ suc (first_child book i + n) = omega arith in
      rw e
      (child_gained i (first_child book i + n) (with_gains t i (first_child book i) n) (record { inside = l; low = omega arith; high = omega arith })
      (children_gained i t l done n (omega arith)))

  parent_gained : (i : ℕ) (t : List ℕ) → i < state_count book → Gained (first_child book i) t → Gained (first_child book (i + 1)) (with_gains_of t (state_count book) i)
  unfolding with_gains_of
  parent_gained i t l done =
      let held : HoldsStates book t = states_kept book room before t (λ k a b. done.kept k (inr (omega (arith, first_child_inside book bytes i, room)))) marked.states in
      let up : first_child book i ≤ first_child book (i + 1) = omega (arith, first_child_next book bytes i l) in
      let from : first_child_in t i ≡ first_child book i = held.children i (omega arith) in
      let end : children_end_in t (state_count book) i ≡ first_child book (i + 1) = children_end_right book bytes t held i l in
      let all : first_child book i + (first_child book (i + 1) - first_child book i) ≡ first_child book (i + 1) = omega arith in
      rw (from, end) (rw all at (children_gained i t l done (first_child book (i + 1) - first_child book i) (omega arith)))

  parents_gained : (n : ℕ) → n ≤ state_count book → Gained (first_child book n) (with_gains_below (with_gain before 0 0) (state_count book) n)
  unfolding with_gains_below
  parents_gained zero l = rw (first_child_root book bytes) root_gained
  parents_gained (suc n) l =
      rw (← add-one) (parent_gained n (with_gains_below (with_gain before 0 0) (state_count book) n) l (parents_gained n (omega arith)))

  -- All states have their gains.
  pub gained_all : Gained (state_count book) (with_gains_below (with_gain before 0 0) (state_count book) (state_count book))
  gained_all = rw (first_child_end book bytes) at (parents_gained (state_count book) (omega arith))
