use Prim.Native.Nat.{◌-◌}
use Rattle.marks.proofs.Reported.{Reading}
use Rattle.marks.proofs.put_reports.Given as goal

abbrev pub invariant-loop-rank : goal.invariant-loop-rank
invariant-loop-rank l =
    Reading l.t l.place.0 l.marks (record { written = l.written; room = l.initial.room }) l.phrases l.room l.count l.from

abbrev pub decreases-loop-rank : goal.decreases-loop-rank
decreases-loop-rank l = 128 - l.from
