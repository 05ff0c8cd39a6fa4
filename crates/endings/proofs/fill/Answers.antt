-- The three passes are those of the definition, one after the other.
-- Assumes nothing.
use native.Mathlib.Omega.{arith}
use Rattle.endings.specs.Filled.{filled}
use Rattle.endings.proofs.fill.Goals as goal

pub link_all-requires : goal.link_all-requires
link_all-requires c = (omega arith, omega arith, c.requires.3)

pub returns : goal.returns
unfolding filled
returns c = rw (c.link_all.ensures, c.inherit_all.ensures, c.put_own.ensures)
