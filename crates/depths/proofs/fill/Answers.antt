-- The passes are those of the definition, one after the other.
-- Assumes nothing.
use Rattle.depths.specs.Depths.{filled}
use Rattle.depths.proofs.fill.Goals as goal

pub returns : goal.returns
unfolding filled
returns c = rw (c.put_all_gains.ensures, c.put_gain.ensures, c.root-2.ensures, c.root.ensures, c.put_depths.ensures)
