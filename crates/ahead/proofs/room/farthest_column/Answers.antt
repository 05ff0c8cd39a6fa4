-- After so many turns it is the last place for so many bytes.
-- Assumes nothing.
use mathlib.Core.Path.{refl, ap, ◌∙◌}
use Prim.Native.Nat.{max}
use native.Mathlib.Omega.{arith}
use Rattle.tables.specs.Reads.{column_in}
use Rattle.ahead.specs.Columns.{farthest}
use Rattle.ahead.proofs.Fits.{farthest_more}
use Rattle.ahead.proofs.room.farthest_column.Goals as goal

pub loop-byte-init : goal.loop-byte-init
unfolding farthest
loop-byte-init c = refl

pub loop-byte-preserved : goal.loop-byte-preserved
loop-byte-preserved c =
    farthest_more c.args.t.now c.loop-byte.byte c.loop-byte.last _ c.loop-byte.invariant (c.max-last.ensures ∙ ap (max c.loop-byte.last) (c.column.ensures.0 ∙ ap (column_in c.args.t.now) (omega arith)))
