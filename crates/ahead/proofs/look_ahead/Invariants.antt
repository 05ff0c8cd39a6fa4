use Rattle.ahead.proofs.Quarters.{Mending}
use Rattle.ahead.proofs.look_ahead.Given as goal

abbrev pub invariant-loop-k : goal.invariant-loop-k
invariant-loop-k l = Mending l.t l.part l.first l.quarter l.fn.state.0 l.start l.initial.ahead l.k l.end l.ahead
