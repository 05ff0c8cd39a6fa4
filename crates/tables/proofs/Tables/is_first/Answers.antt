-- The second bit of the ends is tested.
-- Assumes nothing.
use mathlib.Core.Path.{ap}
use Rattle.tables.specs.Reads.{says_first, first_in}
use Rattle.tables.proofs.Tables.is_first.Goals as goal

pub returns : goal.returns
unfolding says_first first_in
returns c = ap says_first c.ends.ensures
