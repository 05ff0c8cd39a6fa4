-- Columns, rows and depths are three passes over regions of their own: each finds the states and failures as they were, and what the one
-- before it filled in. Assumes nothing.
use mathlib.Core.Path.{◌≡◌, ap, ◌∙◌}
use mathlib.Core.Logic.{inl, inr}
use mathlib.Core.List.{List}
use Prim.Native.Nat.{ℕ, ◌+◌, ◌*◌, ◌≤◌, ◌<◌}
use native.Mathlib.Omega.{arith}
use lib.ListN.{length, get_or}
use Rattle.lent.specs.Numbers.{number_at}
use Rattle.lent.specs.Zeros.{Zero}
use Rattle.lent.proofs.Numbers.{number_agree}
use Rattle.meaning.specs.Books.{Book}
use Rattle.format.specs.Limits.{Within}
use Rattle.numbering.specs.States.{byte_values, state_count}
use Rattle.numbering.proofs.Keywords.{within_bytes}
use Rattle.tables.specs.Classes.{class_count}
use Rattle.tables.specs.Layout.{dense_at, pieces_at, column_at, info_at, out_at, depth_at, label_at, rows_at, room_for_states, room_for_cells}
use Rattle.tables.specs.Layout.{up_to, dense_count, column_of, cell_of, depth_of, ending_mark, info_of}
use Rattle.tables.specs.Reads.{Whole, dense_in, column_in, info_in, depth_in}
use Rattle.tables.proofs.Fits.{fits}
use Rattle.stepping.specs.Held.{HoldsStates, HoldsFailures}
use Rattle.stepping.proofs.Kept.{states_kept, failures_kept}
use Rattle.columns.specs.Columns.{dense_for, columned}
use Rattle.columns.specs.Right as columns
use Rattle.columns.proofs.Right.{dense_right, columned_right}
use Rattle.cells.specs.Cells.{with_rows}
use Rattle.cells.specs.Right as cells
use Rattle.cells.proofs.Right.{rows_right}
use Rattle.depths.specs.Depths as depths
use Rattle.depths.specs.Right as depths-right
use Rattle.depths.proofs.Right.{filled_right}
use Rattle.builder.specs.Passes.{rows_by}

-- Columns, rows and depths, filled in one after the other, are those of the definition.
pub rows_stored : (t t₁ t₂ t₃ : List ℕ) (states dense : ℕ) → dense ≡ dense_for t states → t₁ ≡ columned t states → t₂ ≡ with_rows t₁ states dense byte_values
    → t₃ ≡ depths.filled t₂ states → t₃ ≡ rows_by states t
unfolding rows_by
rows_stored t t₁ t₂ t₃ states dense first columns rows last = rw (last, rows, columns, first)

-- What the endings leave: states, failures and the marks of the infos are the book's, and depths and rows are zero.
pub record RowsReady (book : Book) (t : List ℕ) : Type 0 where
  pub whole : Whole t
  pub states : HoldsStates book t
  pub failures : HoldsFailures book t (state_count book)
  pub depths : (i : ℕ) → i < room_for_states → depth_in t i ≡ 0
  pub infos : (i : ℕ) → i < room_for_states → info_in t i ≡ up_to (state_count book) (ending_mark book) i
  pub cells : Zero rows_at 49152 t

-- Afterwards their five regions are the layout's, and every other byte is as it was.
pub record RowsRight (book : Book) (before after : List ℕ) : Type 0 where
  pub dense : dense_in after ≡ dense_count book
  pub columns : (byte : ℕ) → byte < byte_values → column_in after byte ≡ column_of book byte
  pub infos : (i : ℕ) → i < room_for_states → info_in after i ≡ up_to (state_count book) (info_of book) i
  pub depths : (i : ℕ) → i < room_for_states → depth_in after i ≡ up_to (state_count book) (depth_of book) i
  pub cells : (j : ℕ) → j < room_for_cells → number_at 2 after (rows_at + 2 * j) ≡ up_to (dense_count book * class_count book) (cell_of book) j
  pub counts : (k : ℕ) → pieces_at ≤ k → k < column_at → get_or after k 0 ≡ get_or before k 0
  pub outs : (k : ℕ) → out_at ≤ k → k < depth_at → get_or after k 0 ≡ get_or before k 0
  pub entries : (k : ℕ) → label_at ≤ k → k < rows_at → get_or after k 0 ≡ get_or before k 0
  pub past : (k : ℕ) → 49152 ≤ k → get_or after k 0 ≡ get_or before k 0
  pub long : length after ≡ length before

module _ (book : Book) (within : Within book) (ended : List ℕ) (ready : RowsReady book ended) where
  room : state_count book ≤ room_for_states
  room = (fits book within).states

  -- ── The columns ──

  abbrev columned_ended : List ℕ
  columned_ended = columned ended (state_count book)

  with_columns_lem : columns.Right book ended columned_ended
  with_columns_lem = columned_right book (within_bytes book within) room ended ready.whole ready.states.labels

  -- Behind the columns nothing has changed.
  columns_kept : (k : ℕ) → info_at ≤ k → get_or columned_ended k 0 ≡ get_or ended k 0
  columns_kept k a = with_columns_lem.kept k (inr (inr a))

  -- ── The rows ──

  abbrev rowed : List ℕ
  rowed = with_rows columned_ended (state_count book) (dense_count book) byte_values

  with_rows_lem : cells.Right book columned_ended rowed
  with_rows_lem = rows_right book within columned_ended (record {
    whole = omega (arith, with_columns_lem.whole, ready.whole);
    states = states_kept book room ended columned_ended (λ k a b. columns_kept k (omega arith)) ready.states;
    failures = failures_kept book room ended columned_ended (λ k a b. columns_kept k (omega arith)) (state_count book) (omega arith) ready.failures;
    columns = with_columns_lem.columns;
    zeros = λ k a b. columns_kept k (omega arith) ∙ ready.cells k a b;
  })

  -- ── The depths ──

  abbrev deep : List ℕ
  deep = depths.filled rowed (state_count book)

  rows_kept : (k : ℕ) → info_at ≤ k → k < rows_at → get_or rowed k 0 ≡ get_or ended k 0
  rows_kept k a b = with_rows_lem.kept k (inl b) ∙ columns_kept k a

  with_depths_lem : depths-right.Right book rowed deep
  with_depths_lem = filled_right book within rowed (record {
    whole = omega (arith, with_rows_lem.whole, with_columns_lem.whole, ready.whole);
    states = states_kept book room ended rowed (λ k a b. rows_kept k (omega arith) (omega arith)) ready.states;
    failures = failures_kept book room ended rowed (λ k a b. rows_kept k (omega arith) (omega arith)) (state_count book) (omega arith) ready.failures;
    depths = λ i l. rows_kept (depth_at + i) (omega arith) (omega arith) ∙ ready.depths i l;
    infos = λ i l. rows_kept (info_at + i) (omega arith) (omega arith) ∙ ready.infos i l;
  })

  -- ── All three ──

  rows_are : rows_by (state_count book) ended ≡ deep
  unfolding rows_by
  rows_are = ap (λ (dense : ℕ). depths.filled (with_rows columned_ended (state_count book) dense byte_values) (state_count book)) (dense_right book (within_bytes book within) room ended ready.whole ready.states.labels)

  pub rowed_right : RowsRight book ended (rows_by (state_count book) ended)
  rowed_right = rw rows_are (record {
    dense = number_agree 2 deep columned_ended dense_at (λ k a b. with_depths_lem.kept k (inl (omega arith)) ∙ with_rows_lem.kept k (inl (omega arith))) ∙ with_columns_lem.dense;
    columns = λ byte l.
        number_agree 2 deep columned_ended (column_at + 2 * byte) (λ k a b. with_depths_lem.kept k (inl (omega arith)) ∙ with_rows_lem.kept k (inl (omega arith)))
        ∙ with_columns_lem.columns byte l;
    infos = with_depths_lem.infos;
    depths = with_depths_lem.depths;
    cells = λ j l. number_agree 2 deep rowed (rows_at + 2 * j) (λ k a b. with_depths_lem.kept k (inr (inr (omega arith)))) ∙ with_rows_lem.cells j l;
    counts = λ k a b. with_depths_lem.kept k (inl (omega arith)) ∙ with_rows_lem.kept k (inl (omega arith)) ∙ with_columns_lem.kept k (inr (inl (a, b)));
    outs = λ k a b. with_depths_lem.kept k (inr (inl (a, b))) ∙ rows_kept k (omega arith) (omega arith);
    entries = λ k a b. with_depths_lem.kept k (inr (inr a)) ∙ rows_kept k (omega arith) b;
    past = λ k a. with_depths_lem.kept k (inr (inr (omega arith))) ∙ with_rows_lem.kept k (inr a) ∙ columns_kept k (omega arith);
    long = with_depths_lem.whole ∙ with_rows_lem.whole ∙ with_columns_lem.whole;
  })
