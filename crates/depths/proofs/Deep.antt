-- A failure has a smaller number, so its depth is filled in already, and a state is one deeper. Assumes nothing.
use mathlib.Core.Path.{◌≡◌, refl, ap, ◌∙◌}
use mathlib.Core.Logic.{◌⊎◌, inl, inr, ⊎_elim}
use mathlib.Core.List.{List, [], ◌∷◌}
use Prim.Native.Nat.{ℕ, zero, suc, ◌+◌, ◌≤◌, ◌<◌}
use native.Mathlib.Nat.{le-suc_iff}
use native.Mathlib.Omega.{arith}
use lib.ListN.{length, get_or, length-set}
use lib.Seq.{get_or-set_same, get_or-set_other}
use Rattle.meaning.specs.Books.{Book, keywords}
use Rattle.meaning.specs.Automaton.{is_state, depth}
use Rattle.meaning.proofs.Depth.{depth_nil, depth_failure}
use Rattle.format.specs.Limits.{All, Bytes, Within}
use Rattle.numbering.specs.States.{state_count, state_at, failure_in}
use Rattle.numbering.proofs.Keywords.{within_bytes}
use Rattle.numbering.proofs.States.{state_at_empty, state_at_only_empty, state_at_state}
use Rattle.numbering.proofs.Steps.{failure_in_smaller, failure_in_string}
use Rattle.tables.specs.Layout.{depth_at, label_at, piece_at, depth_of}
use Rattle.tables.specs.Reads.{depth_in, back_in}
use Rattle.tables.proofs.Fits.{fits}
use Rattle.tables.proofs.Fast.{depth_few}
use Rattle.stepping.proofs.Right.{back_right}
use Rattle.stepping.proofs.Kept.{states_kept, failures_kept}
use Rattle.depths.specs.Depths.{depth_for, with_depth, with_depths}
use Rattle.depths.specs.Right.{Ready}

module _ (book : Book) (within : Within book) where
  bytes : All Bytes (keywords book.phrases)
  bytes = within_bytes book within

  -- The empty state is not deep.
  pub depth_root : depth_of book 0 ≡ 0
  unfolding depth_of
  depth_root = ap (depth (is_state book)) (state_at_empty book) ∙ depth_nil (is_state book)

  -- Every other is one deeper than its failure.
  pub depth_more : (i : ℕ) → 0 < i → i < state_count book → depth_of book i ≡ depth_of book (failure_in book i) + 1
  unfolding depth_of
  depth_more i p l = go (state_at book i) refl
    where
      go : (u : List ℕ) → state_at book i ≡ u → depth (is_state book) (state_at book i) ≡ depth (is_state book) (state_at book (failure_in book i)) + 1
      go [] e = absurd (omega (arith, state_at_only_empty book i l e))
      go (x ∷ u) e =
          let deeper = depth_failure (is_state book) x u (rw e at (state_at_state book bytes i l)) in
          rw (failure_in_string book bytes i, e) (omega (arith, deeper))

  module _ (before : List ℕ) (ready : Ready book before) where
    -- The states below a number have their depths, and no other byte is changed.
    pub record Deep (n : ℕ) (t : List ℕ) : Type 0 where
      pub depths : (i : ℕ) → i < n → depth_in t i ≡ depth_of book i
      pub kept : (k : ℕ) → (k < depth_at) ⊎ (depth_at + n ≤ k) → get_or t k 0 ≡ get_or before k 0
      pub whole : length t ≡ length before

    deep_start : Deep 1 before
    deep_start = record { depths = λ i l. root i l; kept = λ k e. refl; whole = refl }
      where
        root : (i : ℕ) → i < 1 → depth_in before i ≡ depth_of book i
        root i l = let z : i ≡ 0 = omega arith in rw (z, depth_root) (ready.depths 0 (omega arith))

    -- The failure has its depth, and the state is one deeper.
    depth_is : (n : ℕ) (t : List ℕ) → 0 < n → n < state_count book → Deep n t → depth_for t n ≡ depth_of book n
    unfolding depth_for
    depth_is n t p l done =
        let smaller : failure_in book n < n = failure_in_smaller book bytes n p l in
        rw (back, done.depths (failure_in book n) smaller) (omega (arith, depth_more n p l, depth_few book within n l))
      where
        same : (k : ℕ) → label_at ≤ k → k < piece_at → get_or t k 0 ≡ get_or before k 0
        same k a b = done.kept k (inr (omega (arith, (fits book within).states)))

        back : back_in t n ≡ failure_in book n
        back = back_right book bytes t (states_kept book (fits book within).states before t same ready.states) (state_count book) (omega arith)
            (failures_kept book (fits book within).states before t same (state_count book) (omega arith) ready.failures) n p l

    deep_further : (n : ℕ) (t : List ℕ) → 0 < n → n < state_count book → Deep n t → Deep (suc n) (with_depth t n)
    unfolding with_depth
    deep_further n t p l done = rw (depth_is n t p l done) (record {
      depths = λ i k. ⊎_elim
          (λ (e : suc i ≤ n). get_or-set_other t (depth_at + n) (depth_at + i) (depth_of book n) 0 (λ z. omega arith) ∙ done.depths i e)
          (λ (e : suc i ≡ suc n). let z : i ≡ n = omega arith in rw z (get_or-set_same t (depth_at + n) (depth_of book n) 0 (omega (arith, done.whole, ready.whole, (fits book within).states))))
          (le-suc_iff.0 k);
      kept = λ k e. get_or-set_other t (depth_at + n) k (depth_of book n) 0 (apart k e) ∙ done.kept k (earlier k e);
      whole = length-set t (depth_at + n) (depth_of book n) ∙ done.whole;
    })
      where
        apart : (k : ℕ) → (k < depth_at) ⊎ (depth_at + suc n ≤ k) → k ≡ depth_at + n → ⊥
        apart k (inl e) z = omega arith
        apart k (inr e) z = omega arith

        earlier : (k : ℕ) → (k < depth_at) ⊎ (depth_at + suc n ≤ k) → (k < depth_at) ⊎ (depth_at + n ≤ k)
        earlier k (inl e) = inl e
        earlier k (inr e) = inr (omega arith)

    pub deep_to : (n : ℕ) → 0 < n → n ≤ state_count book → Deep n (with_depths before n)
    unfolding with_depths
    deep_to zero p l = absurd (omega arith)
    deep_to (suc zero) p l = deep_start
    deep_to (suc (suc n)) p l = deep_further (suc n) (with_depths before (suc n)) (omega arith) l (deep_to (suc n) (omega arith) (omega arith))
