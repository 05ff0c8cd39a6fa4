-- One cell and one column at a time: each turn of a loop is one more of its definition, and each end of a test is one of its sides.
-- Assumes nothing.
use mathlib.Core.Path.{◌≡◌}
use mathlib.Core.List.{List}
use Prim.Native.Nat.{ℕ, ◌+◌, ◌*◌, ◌≤◌, ◌<◌}
use native.Mathlib.Numerals.{add-one}
use borrow.Author.Tests.{le-leb, lt-leb, lt-ltb, le-ltb}
use Rattle.tables.specs.Layout.{rows_at}
use Rattle.tables.specs.Reads.{column_in}
use Rattle.cells.specs.Cells.{with_cell, with_cells, with_column, with_rows}

pub cells_turn : (t₀ : List ℕ) (states column byte i state : ℕ) (t now : List ℕ) → t ≡ with_cells t₀ states column byte i → state ≡ i
    → now ≡ with_cell t states column byte state → now ≡ with_cells t₀ states column byte (i + 1)
unfolding with_cells
cells_turn t₀ states column byte i state t now e z h = rw (add-one, ← e, ← z) h

module _ (t : List ℕ) (states dense byte : ℕ) where
  pub column_first : column_in t byte ≤ rows_at → with_column t states dense byte ≡ t
  unfolding with_column
  column_first h = rw (le-leb (column_in t byte) rows_at h)

  pub column_past : rows_at < column_in t byte → 49152 < column_in t byte + 2 * dense → with_column t states dense byte ≡ t
  unfolding with_column
  column_past a b = rw (lt-leb (column_in t byte) rows_at a, lt-ltb 49152 (column_in t byte + 2 * dense) b)

  pub column_cells : rows_at < column_in t byte → column_in t byte + 2 * dense ≤ 49152 → with_column t states dense byte ≡ with_cells t states (column_in t byte) byte dense
  unfolding with_column
  column_cells a b = rw (lt-leb (column_in t byte) rows_at a, le-ltb 49152 (column_in t byte + 2 * dense) b)

pub rows_turn : (t₀ : List ℕ) (states dense byte : ℕ) (t now : List ℕ) → t ≡ with_rows t₀ states dense byte → now ≡ with_column t states dense byte → now ≡ with_rows t₀ states dense (byte + 1)
unfolding with_rows
rows_turn t₀ states dense byte t now e h = rw (add-one, ← e) h
