-- The byte that is written is the sum of the definition.
-- Assumes nothing.
use mathlib.Core.Path.{refl}
use native.Mathlib.Omega.{arith}
use Rattle.depths.specs.Depths.{with_gain}
use Rattle.depths.proofs.Turns.{same_byte}
use Rattle.depths.proofs.put_gain.Goals as goal

pub returns : goal.returns
unfolding with_gain
returns c = rw (same_byte c.info-info.result c.depth-from.result c.depth-to.result (omega arith), c.index.ensures.0, c.info-info.ensures, c.depth-from.ensures, c.depth-to.ensures, c.of-tables.ensures) refl
