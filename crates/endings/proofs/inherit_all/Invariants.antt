use mathlib.Core.Path.{◌≡◌}
use Prim.Native.Nat.{◌≤◌}
use lib.ListN.{length}
use Rattle.endings.specs.Filled.{inherited_below}
use Rattle.endings.proofs.inherit_all.Given as goal

abbrev pub invariant-loop-i : goal.invariant-loop-i
invariant-loop-i l = (l.i ≤ l.states) × (l.t ≡ inherited_below l.i l.initial.t) × (length l.t ≡ length l.initial.t)
