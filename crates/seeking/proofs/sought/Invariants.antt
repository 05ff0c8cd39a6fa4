use mathlib.Core.Path.{◌≡◌}
use Prim.Native.Nat.{◌<◌}
use Rattle.seeking.specs.Quick.{sought_in}
use Rattle.seeking.proofs.sought.Given as goal

abbrev pub invariant-loop-from : goal.invariant-loop-from
invariant-loop-from l = (l.from.0 < l.states) × (sought_in l.t l.states l.dense l.index l.byte ≡ sought_in l.t l.states l.dense l.from.0 l.byte)

abbrev pub decreases-loop-from : goal.decreases-loop-from
decreases-loop-from l = l.from.0
