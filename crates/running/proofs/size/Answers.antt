-- The published size is the number that the layout ends at.
-- Assumes nothing.
use mathlib.Core.Path.{refl}
use Rattle.running.specs.Layout.{running_size}
use Rattle.running.proofs.size.Goals as goal

pub returns : goal.returns
unfolding running_size
returns c = refl
