-- The place that is read is that of the state, whose index is its number.
-- Assumes nothing.
use mathlib.Core.Path.{ap, ◌∙◌}
use native.Mathlib.Omega.{arith}
use Rattle.lent.specs.Numbers.{number_at}
use Rattle.tables.proofs.Tables.children_end.Goals as goal

pub returns : goal.returns
returns c =
    let number = c.from.ensures in
    rw (← c.self.view_is) ((number ∙ c.get2.ensures ∙ ap (number_at 2 c.self.inside.bytes.now) (omega arith), omega (arith, number)))
