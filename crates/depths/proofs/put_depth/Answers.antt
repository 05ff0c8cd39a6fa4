-- The byte that is written is one more than the failure's.
-- Assumes nothing.
use mathlib.Core.Path.{refl}
use Rattle.depths.specs.Depths.{with_depth}
use Rattle.depths.proofs.put_depth.Goals as goal

pub returns : goal.returns
unfolding with_depth
returns c = rw (c.index.ensures.0, c.depth-failure.ensures, c.failure.ensures.0, c.of-tables.ensures) refl
