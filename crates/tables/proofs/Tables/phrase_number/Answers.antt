-- The place that is read is that of the phrase, whose index is its rank.
-- Assumes nothing.
use mathlib.Core.Path.{ap, ◌∙◌}
use Rattle.tables.specs.Reads.{phrase_number_in}
use Rattle.tables.proofs.Tables.phrase_number.Goals as goal

pub returns : goal.returns
returns c =
    rw (← c.self.view_is) (c.of.ensures ∙ c.get2.ensures ∙ ap (phrase_number_in c.self.inside.bytes.now) c.index.ensures.0)
