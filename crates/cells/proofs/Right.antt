-- Columns of different classes share no cell, and bytes of one class lead to the same states: so after all bytes every cell is right.
-- Assumes nothing.
use mathlib.Core.Path.{◌≡◌, refl, sym, ap, ◌∙◌}
use mathlib.Core.Logic.{◌⊎◌, inl, inr, ⊎_elim}
use mathlib.Core.Bool.{Bool, true, false}
use mathlib.Core.List.{List}
use Prim.Native.Nat.{ℕ, zero, suc, ◌+◌, ◌*◌, ◌/◌, ◌%◌, ◌≤◌, ◌<◌}
use native.Mathlib.Nat.{le-suc_iff, mul-le-mul_left, mul-suc, mul-zero, mul-one, div-add-mod, mod-lt, div-lt_iff_lt-mul, mul_comm}
use native.Mathlib.Omega.{arith}
use lib.ListN.{length, get_or}
use Rattle.lent.specs.Numbers.{number_at}
use Rattle.lent.proofs.Cases.{lt_or_le, eq_or_ne}
use Rattle.lent.proofs.Numbers.{number_agree}
use Rattle.meaning.specs.Books.{Book, keywords}
use Rattle.format.specs.Limits.{All, Bytes, Within}
use Rattle.numbering.specs.States.{byte_values, state_count, step_by}
use Rattle.numbering.proofs.Keywords.{within_bytes}
use Rattle.tables.specs.Classes.{occurs, occurring, class_of, class_count}
use Rattle.tables.specs.Layout.{column_at, rows_at, room_for_states, room_for_cells, up_to, dense_count, column_of, next_by_class, cell_of}
use Rattle.tables.specs.Reads.{column_in, cell_in}
use Rattle.tables.proofs.Parts.{number_zero}
use Rattle.tables.proofs.Fits.{fits}
use Rattle.tables.proofs.Fields.{up_to_below, up_to_past}
use Rattle.tables.proofs.Classes.{class_occurs, class_absent, class_once, class_below, byte_class, cells_room, dense_range}
use Rattle.tables.proofs.Fast.{next_class_lem}
use Rattle.stepping.proofs.Kept.{states_kept, failures_kept}
use Rattle.cells.specs.Cells.{with_cells, with_column, with_rows}
use Rattle.cells.specs.Right.{Ready, Right}
use Rattle.cells.proofs.Turns.{column_first, column_cells}
use Rattle.cells.proofs.Columns.{Celled, celled_to}

-- Columns follow each other: a later one begins where an earlier one has ended.
column_after : (d c e : ℕ) → c < e → d * c + d ≤ d * e
column_after d c e l = omega (arith, mul-suc d c, mul-le-mul_left d l)

module _ (book : Book) (within : Within book) (before : List ℕ) (ready : Ready book before) where
  abbrev dense : ℕ
  dense = dense_count book

  bytes : All Bytes (keywords book.phrases)
  bytes = within_bytes book within

  room : state_count book ≤ room_for_states
  room = (fits book within).states

  -- The columns of the bytes below a number are filled in; the first column and what comes behind the last are as they were.
  record Rowed (n : ℕ) (t : List ℕ) : Type 0 where
    cells : (a u : ℕ) → a < n → u < dense → cell_in t (column_of book a) u ≡ (step_by book u a).at
    kept : (k : ℕ) → (k < rows_at + 2 * dense) ⊎ (rows_at + 2 * (dense * class_count book) ≤ k) → get_or t k 0 ≡ get_or before k 0
    whole : length t ≡ length before

  -- ── One column ──

  module _ (n : ℕ) (t : List ℕ) (l : n < byte_values) (h : Rowed n t) where
    low_kept : (k : ℕ) → k < rows_at → get_or t k 0 ≡ get_or before k 0
    low_kept k a = h.kept k (inl (omega arith))

    column_is : column_in t n ≡ column_of book n
    column_is = number_agree 2 t before (column_at + 2 * n) (λ k a b. low_kept k (omega arith)) ∙ ready.columns n l

    -- A byte that does not occur leads to the root from everywhere, and the first column says so.
    absent_further : occurs book n ≡ false → Rowed (suc n) t
    unfolding column_of next_by_class
    absent_further none = record {
      cells = λ a u k b. ⊎_elim
          (λ (e : suc a ≤ n). h.cells a u e b)
          (λ (e : suc a ≡ suc n). let z : a ≡ n = omega arith in rw z (here u b))
          (le-suc_iff.0 k);
      kept = h.kept;
      whole = h.whole;
    }
      where
        here : (u : ℕ) → u < dense → cell_in t (rows_at + 2 * (dense * class_of book n)) u ≡ (step_by book u n).at
        here u b =
            let class : class_of book n ≡ 0 = class_absent book n none in
            rw (class, mul-zero)
            (number_zero 2 t (rows_at + 2 * 0 + 2 * u) (λ k x y. h.kept k (inl (omega arith)) ∙ ready.zeros k (omega arith) (omega (arith, cells_room book, dense_few)))
            ∙ (rw class at (next_class_lem book within u n l)))
          where
            dense_few : dense ≤ dense * class_count book
            dense_few = omega (arith, mul-one dense, mul-le-mul_left dense (class_below book n l))

    module _ (some : occurs book n ≡ true) where
      later_class : 1 ≤ class_of book n
      later_class = omega (arith, class_occurs book n some)

      column_low : rows_at + 2 * dense ≤ column_of book n
      unfolding column_of
      column_low = omega (arith, mul-one dense, mul-le-mul_left dense later_class)

      column_high : column_of book n + 2 * dense ≤ rows_at + 2 * (dense * class_count book)
      unfolding column_of
      column_high = omega (arith, column_after dense (class_of book n) (class_count book) (class_below book n l))

      column_room : column_of book n + 2 * dense ≤ 49152
      column_room = omega (arith, column_high, cells_room book)

      abbrev cells : List ℕ
      cells = with_cells t (state_count book) (column_of book n) n dense

      done : Celled book bytes room t (column_of book n) n dense cells
      done = celled_to book bytes room t (omega (arith, h.whole, ready.whole))
          (states_kept book room before t (λ k a b. low_kept k (omega arith)) ready.states)
          (failures_kept book room before t (λ k a b. low_kept k (omega arith)) (state_count book) (omega arith) ready.failures)
          (column_of book n) n (omega (arith, column_low)) dense (dense_range book).1 column_room

      is_cells : with_column t (state_count book) dense n ≡ cells
      is_cells =
          column_cells t (state_count book) dense n (omega (arith, column_is, column_low, (dense_range book).0)) (omega (arith, column_is, column_room))
          ∙ ap (λ (c : ℕ). with_cells t (state_count book) c n dense) column_is

      -- The column of another class is somewhere else.
      other : (a : ℕ) → a < n → (column_of book a + 2 * dense ≤ column_of book n) ⊎ (column_of book n + 2 * dense ≤ column_of book a)
      unfolding column_of
      other a k = ⊎_elim
          (λ (c : class_of book a < class_of book n). inl (omega (arith, column_after dense (class_of book a) (class_of book n) c)))
          (λ (c : class_of book n ≤ class_of book a). ⊎_elim
          (λ (e : class_of book a ≡ class_of book n). absurd (omega (arith, class_once book n a l (omega arith) some e)))
          (λ (e : class_of book a ≡ class_of book n → ⊥). inr (omega (arith, column_after dense (class_of book n) (class_of book a) (omega (arith, e)))))
          (eq_or_ne (class_of book a) (class_of book n)))
          (lt_or_le (class_of book a) (class_of book n))

      some_further : Rowed (suc n) (with_column t (state_count book) dense n)
      some_further = rw is_cells (record {
        cells = λ a u k b. ⊎_elim
            (λ (e : suc a ≤ n). number_agree 2 cells t (column_of book a + 2 * u) (λ i x y. done.kept i (beside a u i b x y (other a e))) ∙ h.cells a u e b)
            (λ (e : suc a ≡ suc n). let z : a ≡ n = omega arith in rw z (done.cells u b))
            (le-suc_iff.0 k);
        kept = λ k e. done.kept k (outside k e) ∙ h.kept k e;
        whole = done.whole ∙ h.whole;
      })
        where
          beside : (a u i : ℕ) → u < dense → column_of book a + 2 * u ≤ i → i < column_of book a + 2 * u + 2
              → (column_of book a + 2 * dense ≤ column_of book n) ⊎ (column_of book n + 2 * dense ≤ column_of book a) → (i < column_of book n) ⊎ (column_of book n + 2 * dense ≤ i)
          beside a u i b x y (inl e) = inl (omega arith)
          beside a u i b x y (inr e) = inr (omega arith)

          outside : (k : ℕ) → (k < rows_at + 2 * dense) ⊎ (rows_at + 2 * (dense * class_count book) ≤ k) → (k < column_of book n) ⊎ (column_of book n + 2 * dense ≤ k)
          outside k (inl e) = inl (omega (arith, column_low))
          outside k (inr e) = inr (omega (arith, column_high))

    absent_left : occurs book n ≡ false → with_column t (state_count book) dense n ≡ t
    unfolding column_of
    absent_left none =
        let first : column_of book n ≡ rows_at = rw (class_absent book n none, mul-zero) (omega arith) in
        column_first t (state_count book) dense n (omega (arith, column_is, first))

    rowed_further : Rowed (suc n) (with_column t (state_count book) dense n)
    rowed_further = go (occurs book n) refl
      where
        go : (v : Bool) → occurs book n ≡ v → Rowed (suc n) (with_column t (state_count book) dense n)
        go true e = some_further e
        go false e = rw (absent_left e) (absent_further e)

  -- ── All columns ──

  rowed_to : (n : ℕ) → n ≤ byte_values → Rowed n (with_rows before (state_count book) dense n)
  unfolding with_rows
  rowed_to zero l = record { cells = λ a u k b. absurd (omega arith); kept = λ k e. refl; whole = refl }
  rowed_to (suc n) l = rowed_further n (with_rows before (state_count book) dense n) l (rowed_to n (omega arith))

  abbrev after : List ℕ
  after = with_rows before (state_count book) dense byte_values

  rowed : Rowed byte_values after
  rowed = rowed_to byte_values (omega arith)

  -- The cell of a state in the column of a class.
  cell_is : (c u : ℕ) → c < class_count book → u < dense → number_at 2 after (rows_at + 2 * (dense * c + u)) ≡ next_by_class book u c
  unfolding next_by_class occurring class_count column_of
  cell_is zero u l h =
      number_zero 2 after (rows_at + 2 * (dense * 0 + u)) (λ k a b.
      rowed.kept k (inl (omega (arith, mul-zero dense)))
      ∙ ready.zeros k (omega arith) (omega (arith, mul-zero dense, cells_room book, mul-one dense, mul-le-mul_left dense l)))
  cell_is (suc c) u l h =
      let r = byte_class book byte_values c (omega arith) in
      let a : ℕ = r.0 in
      let class : class_of book a ≡ suc c = omega (arith, class_occurs book a r.2, r.4) in
      let place : rows_at + 2 * (dense * suc c + u) ≡ column_of book a + 2 * u = rw class (omega arith) in
      ap (number_at 2 after) place ∙ rowed.cells a u r.1 h ∙ ap (λ b. (step_by book u b).at) (sym r.3)

  cell_of_lem : (j : ℕ) → next_by_class book (j % dense) (j / dense) ≡ cell_of book j
  unfolding cell_of
  cell_of_lem j = refl

  -- Every cell is that of the layout.
  pub rows_right : Right book before after
  rows_right = record { cells = λ j l. ⊎_elim (inside j) (behind j l) (lt_or_le j (dense * class_count book)); kept = kept; whole = rowed.whole }
    where
      inside : (j : ℕ) → j < dense * class_count book → number_at 2 after (rows_at + 2 * j) ≡ up_to (dense * class_count book) (cell_of book) j
      inside j k =
          let some : 0 < dense = (dense_range book).0 in
          let class : j / dense < class_count book = (div-lt_iff_lt-mul some).1 (omega (arith, mul_comm dense (class_count book))) in
          ap (λ i. number_at 2 after (rows_at + 2 * i)) (sym (div-add-mod j dense))
          ∙ cell_is (j / dense) (j % dense) class (mod-lt j some) ∙ cell_of_lem j
          ∙ sym (up_to_below (dense * class_count book) (cell_of book) j k)

      behind : (j : ℕ) → j < room_for_cells → dense * class_count book ≤ j → number_at 2 after (rows_at + 2 * j) ≡ up_to (dense * class_count book) (cell_of book) j
      behind j l k =
          number_zero 2 after (rows_at + 2 * j) (λ i a b. rowed.kept i (inr (omega arith)) ∙ ready.zeros i (omega arith) (omega arith))
          ∙ sym (up_to_past (dense * class_count book) (cell_of book) j k)

      kept : (k : ℕ) → (k < rows_at) ⊎ (49152 ≤ k) → get_or after k 0 ≡ get_or before k 0
      kept k (inl e) = rowed.kept k (inl (omega arith))
      kept k (inr e) = rowed.kept k (inr (omega (arith, cells_room book)))
