use Rattle.feeding.proofs.Quarters.{Quarters}
use Rattle.feeding.proofs.blocks.take_quarters.Given as goal

abbrev pub invariant-loop-k : goal.invariant-loop-k
invariant-loop-k l = Quarters l.t l.part l.states l.quarter l.initial.m l.initial.room l.initial.progress l.m l.room l.end l.progress l.k
