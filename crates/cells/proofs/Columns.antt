-- In the column of a byte each state gets its next state: its child, or what its failure got before it, as a walk along the failures would
-- come to. Assumes nothing.
use mathlib.Core.Path.{◌≡◌, refl, sym, ap, ◌∙◌}
use mathlib.Core.Logic.{◌⊎◌, inl, inr, ⊎_elim}
use mathlib.Core.List.{List}
use Prim.Native.Nat.{ℕ, zero, suc, ◌+◌, ◌*◌, ◌≤◌, ◌<◌}
use native.Mathlib.Nat.{le-suc_iff}
use native.Mathlib.Omega.{arith}
use lib.ListN.{length, get_or}
use borrow.Author.Tests.{eq-eqb, ne_eqb}
use Rattle.lent.proofs.Cases.{eq_or_ne}
use Rattle.lent.proofs.Numbers.{length_with_number, number_written, number_apart, number_byte_apart}
use Rattle.meaning.specs.Books.{Book, keywords}
use Rattle.format.specs.Limits.{All, Bytes}
use Rattle.numbering.specs.States.{state_count, step_by}
use Rattle.numbering.specs.Walks.{Landed}
use Rattle.numbering.proofs.Steps.{step_by_inside}
use Rattle.tables.specs.Layout.{label_at, piece_at, rows_at, room_for_states}
use Rattle.tables.specs.Reads.{Whole, cell_in, back_in}
use Rattle.tables.proofs.Followed.{back_below}
use Rattle.stepping.specs.Steps.{child_by_in, next_in}
use Rattle.stepping.specs.Held.{HoldsStates, HoldsFailures}
use Rattle.stepping.proofs.Turns.{next_forward, next_back}
use Rattle.stepping.proofs.Turns as stepping
use Rattle.stepping.proofs.Right.{next_right}
use Rattle.stepping.proofs.Kept.{states_kept, failures_kept}
use Rattle.cells.specs.Cells.{next_for, with_cell, with_cells}

-- ── What is put into a cell ──

module _ (t : List ℕ) (states column byte i : ℕ) where
  next_child : (child_by_in t states i byte ≡ 0 → ⊥) → next_for t states column byte i ≡ child_by_in t states i byte
  unfolding next_for
  next_child h = rw (ne_eqb (child_by_in t states i byte) 0 h)

  next_root : child_by_in t states i byte ≡ 0 → i ≡ 0 → next_for t states column byte i ≡ 0
  unfolding next_for
  next_root h z = rw (eq-eqb (child_by_in t states i byte) 0 h, eq-eqb i 0 z)

  next_failure : child_by_in t states i byte ≡ 0 → (i ≡ 0 → ⊥) → next_for t states column byte i ≡ cell_in t column (back_in t i)
  unfolding next_for
  next_failure h z = rw (eq-eqb (child_by_in t states i byte) 0 h, ne_eqb i 0 z)

module _ (book : Book) (bytes : All Bytes (keywords book.phrases)) (room : state_count book ≤ room_for_states) where
  -- ── One cell ──

  module _ (t : List ℕ) (states : HoldsStates book t) (failures : HoldsFailures book t (state_count book)) (column byte : ℕ) where
    -- Where the states before i have their next states, i gets its own.
    next_is : (i : ℕ) → i < state_count book → ((u : ℕ) → u < i → cell_in t column u ≡ (step_by book u byte).at)
        → next_for t (state_count book) column byte i ≡ (step_by book i byte).at
    next_is i l earlier = ⊎_elim none some (eq_or_ne (child_by_in t (state_count book) i byte) 0)
      where
        step : (u : ℕ) → u < state_count book → (next_in t (state_count book) u byte).at ≡ (step_by book u byte).at
        step u h = ap (λ (r : Landed). r.at) (next_right book bytes t states (state_count book) (omega arith) failures u byte h)

        some : (child_by_in t (state_count book) i byte ≡ 0 → ⊥) → next_for t (state_count book) column byte i ≡ (step_by book i byte).at
        some h =
            next_child t (state_count book) column byte i h
            ∙ sym (ap (λ (r : Landed). r.at) (next_forward t (state_count book) byte i h)) ∙ step i l

        back : child_by_in t (state_count book) i byte ≡ 0 → (i ≡ 0 → ⊥) → next_for t (state_count book) column byte i ≡ (step_by book i byte).at
        back h z =
            let smaller : back_in t i < i = back_below t i (omega (arith, z)) in
            next_failure t (state_count book) column byte i h z
            ∙ earlier (back_in t i) smaller ∙ sym (step (back_in t i) (omega arith))
            ∙ sym (ap (λ (r : Landed). r.at) (next_back t (state_count book) byte i (omega (arith, z)) h)) ∙ step i l

        none : child_by_in t (state_count book) i byte ≡ 0 → next_for t (state_count book) column byte i ≡ (step_by book i byte).at
        none h = ⊎_elim
            (λ (z : i ≡ 0). next_root t (state_count book) column byte i h z ∙ sym (ap (λ (r : Landed). r.at) (stepping.next_root t (state_count book) byte i z h)) ∙ step i l)
            (λ (z : i ≡ 0 → ⊥). back h z)
            (eq_or_ne i 0)

  -- ── The cells of a column ──

  -- The states below a number have their cells, and no other byte is changed.
  pub record Celled (before : List ℕ) (column byte n : ℕ) (t : List ℕ) : Type 0 where
    pub cells : (u : ℕ) → u < n → cell_in t column u ≡ (step_by book u byte).at
    pub kept : (k : ℕ) → (k < column) ⊎ (column + 2 * n ≤ k) → get_or t k 0 ≡ get_or before k 0
    pub whole : length t ≡ length before

  module _ (before : List ℕ) (size : Whole before) (states : HoldsStates book before) (failures : HoldsFailures book before (state_count book))
      (column byte : ℕ) (low : rows_at ≤ column) where
    celled_further : (n : ℕ) (t : List ℕ) → n < state_count book → column + 2 * suc n ≤ 49152 → Celled before column byte n t
        → Celled before column byte (suc n) (with_cell t (state_count book) column byte n)
    unfolding with_cell
    celled_further n t l h done = rw value (record {
      cells = λ u k. ⊎_elim
          (λ (e : suc u ≤ n). number_apart 2 2 t (column + 2 * n) next (column + 2 * u) (inl (omega arith)) ∙ done.cells u e)
          (λ (e : suc u ≡ suc n). let z : u ≡ n = omega arith in rw z (number_written 2 t (column + 2 * n) next (omega (arith, done.whole)) small))
          (le-suc_iff.0 k);
      kept = λ k e. number_byte_apart 2 t (column + 2 * n) next k (apart k e) ∙ done.kept k (earlier k e);
      whole = length_with_number 2 t (column + 2 * n) next ∙ done.whole;
    })
      where
        next : ℕ
        next = (step_by book n byte).at

        small : next < 65536
        small = omega (arith, step_by_inside book bytes n byte)

        same : (k : ℕ) → label_at ≤ k → k < piece_at → get_or t k 0 ≡ get_or before k 0
        same k a b = done.kept k (inl (omega arith))

        value : next_for t (state_count book) column byte n ≡ next
        value = next_is t (states_kept book room before t same states) (failures_kept book room before t same (state_count book) (omega arith) failures) column byte n l done.cells

        apart : (k : ℕ) → (k < column) ⊎ (column + 2 * suc n ≤ k) → (k + 1 ≤ column + 2 * n) ⊎ (column + 2 * n + 2 ≤ k)
        apart k (inl e) = inl (omega arith)
        apart k (inr e) = inr (omega arith)

        earlier : (k : ℕ) → (k < column) ⊎ (column + 2 * suc n ≤ k) → (k < column) ⊎ (column + 2 * n ≤ k)
        earlier k (inl e) = inl e
        earlier k (inr e) = inr (omega arith)

    pub celled_to : (n : ℕ) → n ≤ state_count book → column + 2 * n ≤ 49152 → Celled before column byte n (with_cells before (state_count book) column byte n)
    unfolding with_cells
    celled_to zero l h = record { cells = λ u k. absurd (omega arith); kept = λ k e. refl; whole = refl }
    celled_to (suc n) l h = celled_further n (with_cells before (state_count book) column byte n) l h (celled_to n (omega arith) (omega arith))
