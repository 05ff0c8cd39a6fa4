-- How the rows are filled in, column by column, as the code does it. Assumes nothing: these are definitions.
use Rattle.std.specs.Prelude.{cond, List, ℕ, zero, suc, ◌+◌, ◌*◌, eqb, leb, ltb}
use Rattle.lent.specs.Numbers.{with_number}
use Rattle.tables.specs.Layout.{rows_at}
use Rattle.tables.specs.Reads.{column_in, cell_in, back_in}
use Rattle.stepping.specs.Steps.{child_by_in}

-- What a state has in the column of a byte: its child by the byte where there is one; else what its failure has; the root has itself.
unfoldable pub next_for : List ℕ → ℕ → ℕ → ℕ → ℕ → ℕ
next_for t states column byte i =
    let back : ℕ = cell_in t column (back_in t i) in
    let none : ℕ = cond (eqb i 0) 0 back in
    cond (eqb (child_by_in t states i byte) 0) none (child_by_in t states i byte)

unfoldable pub with_cell : List ℕ → ℕ → ℕ → ℕ → ℕ → List ℕ
with_cell t states column byte i = with_number 2 t (column + 2 * i) (next_for t states column byte i)

-- The cells of the states below a number, one after the other.
unfoldable pub with_cells : List ℕ → ℕ → ℕ → ℕ → ℕ → List ℕ
with_cells t states column byte zero = t
with_cells t states column byte (suc i) = with_cell (with_cells t states column byte i) states column byte i

-- The column of a byte. The first column is left as it is, and so is one that would end past the memory.
unfoldable pub with_column : List ℕ → ℕ → ℕ → ℕ → List ℕ
with_column t states dense byte =
    cond (leb (column_in t byte) rows_at) t (cond (ltb 49152 (column_in t byte + 2 * dense)) t (with_cells t states (column_in t byte) byte dense))

-- The columns of the bytes below a number.
unfoldable pub with_rows : List ℕ → ℕ → ℕ → ℕ → List ℕ
with_rows t states dense zero = t
with_rows t states dense (suc byte) = with_column (with_rows t states dense byte) states dense byte
