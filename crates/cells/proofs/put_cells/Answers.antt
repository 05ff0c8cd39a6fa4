-- After i turns the states below i have their cells.
-- Assumes nothing.
use mathlib.Core.Path.{◌≡◌, refl}
use native.Mathlib.Omega.{arith}
use Rattle.cells.specs.Cells.{with_cells}
use Rattle.cells.proofs.Turns.{cells_turn}
use Rattle.cells.proofs.put_cells.Goals as goal

pub loop-i-init : goal.loop-i-init
unfolding with_cells
loop-i-init c = refl

pub loop-i-preserved : goal.loop-i-preserved
loop-i-preserved c =
    let a = c.args in
    cells_turn a.t.now a.states a.column.start a.column.byte c.loop-i.i _ c.loop-i.t _ c.loop-i.invariant c.numbered.ensures c.put_cell.ensures

pub returns : goal.returns
returns c =
    let done : c.loop-i.i ≡ c.args.dense = omega arith in
    rw done at c.loop-i.invariant
