-- The columns are a part of the memory, and in it the place that is read is that of the byte, of which there are 256.
-- Assumes nothing.
use native.Mathlib.Omega.{arith}
use Rattle.tables.proofs.Cells.{column_read}
use Rattle.tables.proofs.Tables.column.Goals as goal

pub returns : goal.returns
returns c =
    let a = c.args in
    rw (← c.self.view_is) ((column_read c.self.inside.bytes.now (omega arith) c.from.ensures c.get2.ensures c.from-2.ensures, omega (arith, c.from-2.ensures), c.self.invariant))
