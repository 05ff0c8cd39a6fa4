use Rattle.stepping.proofs.Turns.{Going}
use Rattle.stepping.proofs.next_state.Given as goal

abbrev pub invariant-loop-next : goal.invariant-loop-next
invariant-loop-next l = Going l.t l.states l.initial.from.0 l.byte l.from.0 l.steps

abbrev pub decreases-loop-next : goal.decreases-loop-next
decreases-loop-next l = l.from.0
