-- The place that is read is that of the state, whose index is its number.
-- Assumes nothing.
use mathlib.Core.Path.{ap}
use Rattle.tables.specs.Reads.{label_in}
use Rattle.tables.proofs.Tables.label.Goals as goal

pub returns : goal.returns
returns c =
    rw (← c.self.view_is) (ap (label_in c.self.inside.bytes.now) c.index.ensures.0)
