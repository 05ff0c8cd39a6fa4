-- The classes come in the order of the bytes, and each column follows the one before it. Assumes nothing.
use mathlib.Core.Path.{◌≡◌, refl, sym, ◌∙◌}
use mathlib.Core.Logic.{◌⊎◌, inl, inr, ⊎_elim}
use mathlib.Core.Bool.{Bool, true, false}
use mathlib.Core.List.{List}
use Prim.Native.Nat.{ℕ, zero, suc, ◌+◌, ◌*◌, ◌%◌, ◌≤◌, ◌<◌}
use native.Mathlib.Nat.{le-suc_iff}
use native.Mathlib.Omega.{arith}
use lib.ListN.{length, get_or}
use borrow.Author.Tests.{eq-eqb, ne_eqb}
use Rattle.lent.specs.Numbers.{with_number}
use Rattle.lent.proofs.Numbers.{length_with_number, number_written, number_apart, number_byte_apart, number_agree}
use Rattle.meaning.specs.Books.{Book, keywords}
use Rattle.meaning.specs.Reports.{choose}
use Rattle.format.specs.Limits.{All, Bytes}
use Rattle.numbering.specs.Listed.{below}
use Rattle.numbering.specs.States.{byte_values, state_count}
use Rattle.tables.specs.Classes.{occurs, occurring_below, occurring, class_of, class_count}
use Rattle.tables.specs.Layout.{dense_at, pieces_at, column_at, info_at, rows_at, label_at, room_for_states, label_of, dense_count, column_of}
use Rattle.tables.specs.Reads.{Whole, label_in, column_in}
use Rattle.tables.proofs.Classes.{below_grows, class_occurs, class_absent, class_below, class_count_lem, cells_room, cell_inside, dense_range}
use Rattle.columns.specs.Columns.{labelled_by, class_for, next_class, with_class, Classed, classed, most_rows, with_column, with_columns, dense_for, columned}
use Rattle.columns.specs.Right.{Right}
use Rattle.columns.proofs.Seen.{seen_none, seen_some}

apart : (n k : ℕ) → (k < column_at) ⊎ (column_at + 2 * suc n ≤ k) → (k + 1 ≤ column_at + 2 * n) ⊎ (column_at + 2 * n + 2 ≤ k)
apart n k (inl e) = inl (omega arith)
apart n k (inr e) = inr (omega arith)

earlier : (n k : ℕ) → (k < column_at) ⊎ (column_at + 2 * suc n ≤ k) → (k < column_at) ⊎ (column_at + 2 * n ≤ k)
earlier n k (inl e) = inl e
earlier n k (inr e) = inr (omega arith)

module _ (book : Book) (bytes : All Bytes (keywords book.phrases)) (room : state_count book ≤ room_for_states) (before : List ℕ) (size : Whole before)
    (labels : (i : ℕ) → i < state_count book → label_in before i ≡ label_of book i) where
  -- ── Classes ──

  -- The bytes below a number have their classes noted, and no other byte is changed.
  record Noted (n : ℕ) (c : Classed) : Type 0 where
    next : c.next ≡ length (occurring_below book n) + 1
    classes : (a : ℕ) → a < n → column_in c.tables a ≡ class_of book a
    kept : (k : ℕ) → (k < column_at) ⊎ (column_at + 2 * n ≤ k) → get_or c.tables k 0 ≡ get_or before k 0
    whole : length c.tables ≡ length before

  noted_class : (n : ℕ) (c : Classed) → n < byte_values → Noted n c
      → (class_for c.tables (state_count book) c.next n ≡ class_of book n) × (next_class c.tables (state_count book) c.next n ≡ length (occurring_below book (suc n)) + 1)
  unfolding class_for next_class
  noted_class n c l h = go (occurs book n) refl
    where
      still : (i : ℕ) → i < state_count book → label_in c.tables i ≡ label_of book i
      still i k = h.kept (label_at + i) (inr (omega arith)) ∙ labels i k

      go : (v : Bool) → occurs book n ≡ v
          → (class_for c.tables (state_count book) c.next n ≡ class_of book n) × (next_class c.tables (state_count book) c.next n ≡ length (occurring_below book (suc n)) + 1)
      go true e = rw (ne_eqb (labelled_by c.tables (state_count book) n) 0 (seen_some book bytes c.tables still n e)) (
        h.next ∙ sym (class_occurs book n e),
        omega (arith, h.next, rw e at (below_grows book n)),
      )
      go false e = rw (eq-eqb (labelled_by c.tables (state_count book) n) 0 (seen_none book bytes c.tables still n e)) (
        sym (class_absent book n e),
        omega (arith, h.next, rw e at (below_grows book n)),
      )

  class_small : (a : ℕ) → a < byte_values → class_of book a < 65536
  class_small a l = omega (arith, class_below book a l, (class_count_lem book).1)

  noted_start : Noted 0 (record { tables = before; next = 1 })
  unfolding occurring_below below choose
  noted_start = record { next = refl; classes = λ a l. absurd (omega arith); kept = λ k e. refl; whole = refl }

  noted_further : (n : ℕ) (c : Classed) → n < byte_values → Noted n c
      → Noted (suc n) (record { tables = with_class c.tables (state_count book) c.next n; next = next_class c.tables (state_count book) c.next n })
  unfolding with_class
  noted_further n c l h = rw (noted_class n c l h).0 (record {
    next = (noted_class n c l h).1;
    classes = λ a k. ⊎_elim
        (λ (e : suc a ≤ n). number_apart 2 2 c.tables (column_at + 2 * n) (class_of book n) (column_at + 2 * a) (inl (omega arith)) ∙ h.classes a e)
        (λ (e : suc a ≡ suc n). let z : a ≡ n = omega arith in
        rw z (number_written 2 c.tables (column_at + 2 * n) (class_of book n) (omega (arith, h.whole)) (class_small n l)))
        (le-suc_iff.0 k);
    kept = λ k e. number_byte_apart 2 c.tables (column_at + 2 * n) (class_of book n) k (apart n k e) ∙ h.kept k (earlier n k e);
    whole = length_with_number 2 c.tables (column_at + 2 * n) (class_of book n) ∙ h.whole;
  })

  noted_to : (n : ℕ) → n ≤ byte_values → Noted n (classed before (state_count book) n)
  unfolding classed
  noted_to zero l = noted_start
  noted_to (suc n) l = noted_further n (classed before (state_count book) n) l (noted_to n (omega arith))

  -- ── Columns ──

  abbrev noted : List ℕ
  noted = (classed before (state_count book) byte_values).tables

  all_noted : Noted byte_values (classed before (state_count book) byte_values)
  all_noted = noted_to byte_values (omega arith)

  -- As many states have a row as the layout says.
  pub dense_right : dense_for before (state_count book) ≡ dense_count book
  unfolding dense_for most_rows dense_count class_count occurring
  dense_right = rw all_noted.next

  abbrev headed : List ℕ
  headed = with_number 2 noted dense_at (dense_count book)

  -- The bytes below a number have their columns, the others still their classes, and no other byte is changed.
  record Placed (n : ℕ) (t : List ℕ) : Type 0 where
    columns : (a : ℕ) → a < n → column_in t a ≡ column_of book a
    classes : (a : ℕ) → n ≤ a → a < byte_values → column_in t a ≡ class_of book a
    kept : (k : ℕ) → (k < column_at) ⊎ (info_at ≤ k) → get_or t k 0 ≡ get_or headed k 0
    whole : length t ≡ length before

  column_is : (n : ℕ) (t : List ℕ) → n < byte_values → Placed n t → (rows_at + 2 * (dense_count book * column_in t n)) % 65536 ≡ column_of book n
  unfolding column_of
  column_is n t l h = rw (h.classes n (omega arith) l) (omega (arith, cell_inside book 0 n (dense_range book).0 l, cells_room book))

  column_small : (a : ℕ) → a < byte_values → column_of book a < 65536
  unfolding column_of
  column_small a l = omega (arith, cell_inside book 0 a (dense_range book).0 l, cells_room book)

  placed_start : Placed 0 headed
  placed_start = record {
    columns = λ a l. absurd (omega arith);
    classes = λ a k l. number_apart 2 2 noted dense_at (dense_count book) (column_at + 2 * a) (inr (omega arith)) ∙ all_noted.classes a l;
    kept = λ k e. refl;
    whole = length_with_number 2 noted dense_at (dense_count book) ∙ all_noted.whole;
  }

  placed_further : (n : ℕ) (t : List ℕ) → n < byte_values → Placed n t → Placed (suc n) (with_column t (dense_count book) n)
  unfolding with_column
  placed_further n t l h = rw (column_is n t l h) (record {
    columns = λ a k. ⊎_elim
        (λ (e : suc a ≤ n). number_apart 2 2 t (column_at + 2 * n) (column_of book n) (column_at + 2 * a) (inl (omega arith)) ∙ h.columns a e)
        (λ (e : suc a ≡ suc n). let z : a ≡ n = omega arith in
        rw z (number_written 2 t (column_at + 2 * n) (column_of book n) (omega (arith, h.whole)) (column_small n l)))
        (le-suc_iff.0 k);
    classes = λ a k b. number_apart 2 2 t (column_at + 2 * n) (column_of book n) (column_at + 2 * a) (inr (omega arith)) ∙ h.classes a (omega arith) b;
    kept = λ k e. number_byte_apart 2 t (column_at + 2 * n) (column_of book n) k (outside k e) ∙ h.kept k e;
    whole = length_with_number 2 t (column_at + 2 * n) (column_of book n) ∙ h.whole;
  })
    where
      outside : (k : ℕ) → (k < column_at) ⊎ (info_at ≤ k) → (k + 1 ≤ column_at + 2 * n) ⊎ (column_at + 2 * n + 2 ≤ k)
      outside k (inl e) = inl (omega arith)
      outside k (inr e) = inr (omega arith)

  placed_to : (n : ℕ) → n ≤ byte_values → Placed n (with_columns headed (dense_count book) n)
  unfolding with_columns
  placed_to zero l = placed_start
  placed_to (suc n) l = placed_further n (with_columns headed (dense_count book) n) l (placed_to n (omega arith))

  -- Both regions are the layout's, and every other byte is as it was.
  pub columned_right : Right book before (columned before (state_count book))
  unfolding columned
  columned_right = rw dense_right (record {
    dense = number_agree 2 filled headed dense_at (λ k a b. done.kept k (inl (omega arith))) ∙ number_written 2 noted dense_at (dense_count book) (omega (arith, all_noted.whole)) (omega (arith, (dense_range book).1));
    columns = λ a l. done.columns a l;
    kept = kept;
    whole = done.whole;
  })
    where
      filled : List ℕ
      filled = with_columns headed (dense_count book) byte_values

      done : Placed byte_values filled
      done = placed_to byte_values (omega arith)

      kept : (k : ℕ) → (k < dense_at) ⊎ (((pieces_at ≤ k) × (k < column_at)) ⊎ (info_at ≤ k)) → get_or filled k 0 ≡ get_or before k 0
      kept k (inl e) = done.kept k (inl (omega arith)) ∙ number_byte_apart 2 noted dense_at (dense_count book) k (inl (omega arith)) ∙ all_noted.kept k (inl (omega arith))
      kept k (inr (inl e)) = done.kept k (inl e.1) ∙ number_byte_apart 2 noted dense_at (dense_count book) k (inr (omega (arith, e.0))) ∙ all_noted.kept k (inl e.1)
      kept k (inr (inr e)) = done.kept k (inr e) ∙ number_byte_apart 2 noted dense_at (dense_count book) k (inr (omega arith)) ∙ all_noted.kept k (inr (omega arith))
