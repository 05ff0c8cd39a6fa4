-- The three ends are those of the definition: the first column, one past the memory, and any other.
-- Assumes nothing.
use mathlib.Core.Path.{◌≡◌, sym}
use native.Mathlib.Omega.{arith}
use Rattle.tables.specs.Reads.{column_in}
use Rattle.cells.proofs.Turns.{column_first, column_past, column_cells}
use Rattle.cells.proofs.fill_column.Goals as goal

pub returns-then-start-le-ROWS : goal.returns-then-start-le-ROWS
returns-then-start-le-ROWS c =
    let a = c.args in
    let start : c.column-start.result ≡ column_in a.t.now a.byte = rw c.of.ensures at c.column-start.ensures.0 in
    sym (column_first a.t.now a.states a.dense a.byte (omega (arith, start)))

pub returns-then-start-dense-gt-SIZE : goal.returns-then-start-dense-gt-SIZE
returns-then-start-dense-gt-SIZE c =
    let a = c.args in
    let start : c.column-start.result ≡ column_in a.t.now a.byte = rw c.of.ensures at c.column-start.ensures.0 in
    sym (column_past a.t.now a.states a.dense a.byte (omega (arith, start)) (omega (arith, start)))

pub returns : goal.returns
returns c =
    let a = c.args in
    let start : c.column-start.result ≡ column_in a.t.now a.byte = rw c.of.ensures at c.column-start.ensures.0 in
    rw (c.put_cells.ensures, start) (sym (column_cells a.t.now a.states a.dense a.byte (omega (arith, start)) (omega (arith, start))))
