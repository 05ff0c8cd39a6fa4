-- The column is the part of the memory from its place on, and the cell stands in it at twice the index.
-- Assumes nothing.
use mathlib.Core.Path.{refl}
use native.Mathlib.Omega.{arith}
use Rattle.tables.proofs.Cells.{cell_read}
use Rattle.tables.proofs.cell_with.Goals as goal

pub returns : goal.returns
returns c = (cell_read c.args.t.now c.args.column c.requires refl c.get2.ensures c.from.ensures, omega (arith, c.from.ensures))
