-- `number_child` meets its contract: where a keyword is noted there is room, and each store is one of the definition's.
-- Assumes nothing.
use Rattle.filling.specs.Turns.{with_child, numbered_child}
use Rattle.filling.proofs.turns.number_child.Goals as goal

pub returns-in_default : goal.returns-in_default
unfolding with_child
returns-in_default c = rw c.in_default.is

pub returns : goal.returns
unfolding with_child numbered_child
returns c = rw c.in-Some.is
