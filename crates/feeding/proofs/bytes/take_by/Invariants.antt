use Prim.Native.Nat.{◌-◌}
use lib.ListN.{length}
use Rattle.feeding.specs.Ready.{OnTheWay}
use Rattle.feeding.proofs.Loop.{Turning}
use Rattle.feeding.proofs.bytes.take_by.Given as goal

abbrev pub invariant-loop-written : goal.invariant-loop-written
invariant-loop-written g l = (Turning l.t l.part l.initial.m l.initial.room l.phrases l.free l.fn.from l.m l.room (record { way = l.way; written = l.written })) × (OnTheWay l.t l.part l.fn.from l.way)

abbrev pub decreases-loop-written : goal.decreases-loop-written
decreases-loop-written g l = length l.part - l.way.taken
