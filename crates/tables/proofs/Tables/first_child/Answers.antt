-- The place that is read is that of the state, whose index is its number.
-- Assumes nothing.
use native.Mathlib.Omega.{arith}
use mathlib.Core.Path.{ap, ◌∙◌}
use Rattle.tables.specs.Reads.{first_child_in}
use Rattle.tables.proofs.Tables.first_child.Goals as goal

pub returns : goal.returns
returns c =
    let number = c.from.ensures in
    rw (← c.self.view_is) ((number ∙ c.get2.ensures ∙ ap (first_child_in c.self.inside.bytes.now) c.index.ensures.0, omega (arith, number)))
