-- The lowest bit of the ends is tested.
-- Assumes nothing.
use mathlib.Core.Path.{ap}
use Rattle.tables.specs.Reads.{says_last, last_in}
use Rattle.tables.proofs.Tables.is_last.Goals as goal

pub returns : goal.returns
unfolding says_last last_in
returns c = ap says_last c.ends.ensures
