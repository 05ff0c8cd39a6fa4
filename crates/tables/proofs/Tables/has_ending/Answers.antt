-- The mark of an ending is the highest bit of the info, so the test is one comparison.
-- Assumes nothing.
use mathlib.Core.Path.{ap}
use lib.Dec.{leb}
use Rattle.tables.specs.Reads.{ending_in}
use Rattle.tables.proofs.Tables.has_ending.Goals as goal

pub returns : goal.returns
unfolding ending_in
returns c = ap (leb 128) c.info.ensures
