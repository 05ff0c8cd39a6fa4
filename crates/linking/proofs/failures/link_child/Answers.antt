-- `link_child` meets its contract: it writes the failure that it found.
-- Assumes nothing.
use mathlib.Core.Path.{◌∙◌}
use Rattle.linking.proofs.Turns.{failure_written}
use Rattle.linking.proofs.failures.link_child.Goals as goal

pub returns : goal.returns
returns c =
    let a = c.args in
    failure_written a.t.now a.states a.parent.0 a.child.0 _ _ _ c.index.ensures.0 (c.number.ensures ∙ (rw c.of.ensures at c.failure_of_child-failure.ensures)) c.put2.ensures
