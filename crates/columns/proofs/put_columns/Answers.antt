-- After so many turns the bytes below that number have their columns.
-- Assumes nothing.
use mathlib.Core.Path.{◌≡◌, refl}
use native.Mathlib.Omega.{arith}
use Rattle.columns.specs.Columns.{with_columns}
use Rattle.columns.proofs.Turns.{columns_turn}
use Rattle.columns.proofs.put_columns.Goals as goal

pub loop-byte-init : goal.loop-byte-init
unfolding with_columns
loop-byte-init c = refl

pub loop-byte-preserved : goal.loop-byte-preserved
loop-byte-preserved c = columns_turn c.args.t.now c.args.dense c.loop-byte.byte c.loop-byte.t _ c.loop-byte.invariant c.put_column.ensures

pub returns-2 : goal.returns-2
returns-2 c =
    let last : c.loop-byte.byte ≡ 255 = omega arith in
    rw last at (columns_turn c.args.t.now c.args.dense c.loop-byte.byte c.loop-byte.t _ c.loop-byte.invariant c.put_column.ensures)
