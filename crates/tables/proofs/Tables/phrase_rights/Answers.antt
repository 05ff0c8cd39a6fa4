-- The place that is read is that of the phrase, whose index is its rank.
-- Assumes nothing.
use mathlib.Core.Path.{ap}
use Rattle.tables.specs.Reads.{phrase_rights_in}
use Rattle.tables.proofs.Tables.phrase_rights.Goals as goal

pub returns : goal.returns
returns c =
    rw (← c.self.view_is) (ap (phrase_rights_in c.self.inside.bytes.now) c.index.ensures.0)
