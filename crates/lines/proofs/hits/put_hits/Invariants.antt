use mathlib.Core.Path.{◌≡◌}
use Prim.Native.Nat.{◌-◌, ◌≤◌}
use lib.ListN.{length}
use Rattle.listing.specs.Writing.{left}
use Rattle.lines.specs.Hits.{hits_written}
use Rattle.lines.proofs.hits.put_hits.Given as goal

abbrev pub invariant-loop-i : goal.invariant-loop-i
invariant-loop-i l =
    (l.i ≤ l.reports)
    × (length l.out ≡ length l.initial.out)
    × (hits_written l.t l.room l.i (l.reports - l.i) (left l.out l.end) ≡ hits_written l.t l.room 0 l.reports (left l.initial.out 0))
