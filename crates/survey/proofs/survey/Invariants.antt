use Prim.Native.Nat.{◌-◌}
use lib.ListN.{length}
use Rattle.survey.specs.Turns.{noted, reading}
use Rattle.survey.proofs.Loop.{Going}
use Rattle.survey.proofs.survey.Given as goal

abbrev pub invariant-loop-progress : goal.invariant-loop-progress
invariant-loop-progress l = Going l.book (noted l.initial.t l.initial.words) (reading l.progress (noted l.t l.words))

abbrev pub decreases-loop-progress : goal.decreases-loop-progress
decreases-loop-progress l = length l.book - l.progress.at
