use Prim.Native.Nat.{◌-◌}
use lib.ListN.{length}
use Rattle.feeding.proofs.AllBlocks.{Blocks}
use Rattle.feeding.proofs.blocks.take_blocks.Given as goal

abbrev pub invariant-loop-quarter : goal.invariant-loop-quarter
invariant-loop-quarter l = Blocks l.t l.part l.initial.m l.initial.room l.phrases l.free l.initial.progress l.m l.room l.quarter l.progress

abbrev pub decreases-loop-quarter : goal.decreases-loop-quarter
decreases-loop-quarter l = length l.part - l.progress.way.taken
