-- How the columns are filled in, as the code does it: first the class of each byte stands in its entry, then where its column begins.
-- Assumes nothing: these are definitions.
use Rattle.std.specs.Prelude.{cond, List, ℕ, zero, suc, min, ◌+◌, ◌-◌, ◌*◌, ◌/◌, ◌%◌, eqb}
use Rattle.lent.specs.Numbers.{with_number}
use Rattle.numbering.specs.States.{byte_values}
use Rattle.tables.specs.Layout.{dense_at, column_at, rows_at, room_for_cells}
use Rattle.tables.specs.Reads.{column_in}
use Rattle.stepping.specs.Steps.{labelled_in}

-- ── Classes ──

-- The first state past the root that has the byte as its label; 0 where none has.
abbrev pub labelled_by : List ℕ → ℕ → ℕ → ℕ
labelled_by t states byte = labelled_in t byte (states - 1) 1

-- The class of a byte, where `next` is to be the next one: that one where some state has the byte as its label, and else 0.
unfoldable pub class_for : List ℕ → ℕ → ℕ → ℕ → ℕ
class_for t states next byte = cond (eqb (labelled_by t states byte) 0) 0 next

-- Which class is next after it.
unfoldable pub next_class : List ℕ → ℕ → ℕ → ℕ → ℕ
next_class t states next byte = cond (eqb (labelled_by t states byte) 0) next (next + 1)

unfoldable pub with_class : List ℕ → ℕ → ℕ → ℕ → List ℕ
with_class t states next byte = with_number 2 t (column_at + 2 * byte) (class_for t states next byte)

-- The memory, and which class is next.
pub record Classed : Type 0 where
  pub tables : List ℕ
  pub next : ℕ

-- The classes of the bytes below a number are noted; the first one past 0 is 1.
unfoldable pub classed : List ℕ → ℕ → ℕ → Classed
classed t states zero = record { tables = t; next = 1 }
classed t states (suc byte) = let before : Classed = classed t states byte in record {
  tables = with_class before.tables states before.next byte;
  next = next_class before.tables states before.next byte;
}

-- ── Columns ──

-- How many states have a row: all, or as many as there is room for.
unfoldable pub most_rows : ℕ → ℕ → ℕ
most_rows states classes = min states (room_for_cells / classes)

-- Where the class of a byte was noted stands where its column begins, as far as two bytes can say.
unfoldable pub with_column : List ℕ → ℕ → ℕ → List ℕ
with_column t dense byte = with_number 2 t (column_at + 2 * byte) ((rows_at + 2 * (dense * column_in t byte)) % 65536)

-- The same for the bytes below a number.
unfoldable pub with_columns : List ℕ → ℕ → ℕ → List ℕ
with_columns t dense zero = t
with_columns t dense (suc byte) = with_column (with_columns t dense byte) dense byte

-- ── The whole ──

unfoldable pub dense_for : List ℕ → ℕ → ℕ
dense_for t states = most_rows states (classed t states byte_values).next

unfoldable pub columned : List ℕ → ℕ → List ℕ
columned t states = with_columns (with_number 2 (classed t states byte_values).tables dense_at (dense_for t states)) (dense_for t states) byte_values
