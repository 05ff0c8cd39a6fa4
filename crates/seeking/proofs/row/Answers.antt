-- The two returns are the two sides of the test on the column.
-- Assumes nothing.
use mathlib.Core.Path.{sym, ap, ◌∙◌}
use native.Mathlib.Omega.{arith}
use Rattle.tables.specs.Reads.{cell_in}
use Rattle.seeking.proofs.Seeking.{row_none, row_cell}
use Rattle.seeking.proofs.row.Goals as goal

pub returns-then-dense-column : goal.returns-then-dense-column
returns-then-dense-column c =
    let a = c.args in
    (sym (row_none a.t.now a.states a.dense a.byte (omega arith) a.state.0 (omega arith)), omega arith)

pub returns : goal.returns
returns c =
    let a = c.args in
    let cell = c.cell.ensures.0 ∙ ap (λ column. cell_in a.t.now column a.state.0) c.column-column.ensures.0 in
    (cell ∙ sym (row_cell a.t.now a.states a.dense a.byte (omega arith) a.state.0 (omega arith)), omega arith)
