-- The published size is the number that the layout ends at.
-- Assumes nothing.
use mathlib.Core.Path.{refl}
use Rattle.tables.specs.Layout.{tables_size}
use Rattle.tables.proofs.size.Goals as goal

pub returns : goal.returns
unfolding tables_size
returns c = refl
