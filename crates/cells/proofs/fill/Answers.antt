-- After so many turns the bytes below that number have their columns filled in.
-- Assumes nothing.
use mathlib.Core.Path.{◌≡◌, refl}
use native.Mathlib.Omega.{arith}
use Rattle.cells.specs.Cells.{with_rows}
use Rattle.cells.proofs.Turns.{rows_turn}
use Rattle.cells.proofs.fill.Goals as goal

pub loop-byte-init : goal.loop-byte-init
unfolding with_rows
loop-byte-init c = refl

pub loop-byte-preserved : goal.loop-byte-preserved
loop-byte-preserved c = let a = c.args in rows_turn a.t.now a.states a.dense c.loop-byte.byte c.loop-byte.t _ c.loop-byte.invariant c.fill_column.ensures

pub returns-2 : goal.returns-2
returns-2 c =
    let a = c.args in
    let last : c.loop-byte.byte ≡ 255 = omega arith in
    rw last at (rows_turn a.t.now a.states a.dense c.loop-byte.byte c.loop-byte.t _ c.loop-byte.invariant c.fill_column.ensures)
