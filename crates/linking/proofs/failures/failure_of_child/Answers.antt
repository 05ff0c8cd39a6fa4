-- `failure_of_child` meets its contract: it takes the definition's step from the failure of the parent.
-- Assumes nothing.
use mathlib.Core.Path.{ap}
use Rattle.numbering.specs.Walks.{Landed}
use Rattle.linking.specs.Failures.{failure_of_child}
use Rattle.linking.proofs.failures.failure_of_child.Goals as goal

pub returns : goal.returns
unfolding failure_of_child
returns c = simp (ap (λ (l : Landed). l.at) c.next_state-stepped.ensures.0, c.label.ensures, c.failure-from.ensures.0)
