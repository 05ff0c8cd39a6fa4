use mathlib.Core.Path.{◌≡◌}
use Prim.Native.Nat.{◌≤◌}
use lib.ListN.{length}
use Rattle.endings.specs.Filled.{own_below}
use Rattle.endings.proofs.put_own.Given as goal

abbrev pub invariant-loop-p : goal.invariant-loop-p
invariant-loop-p l = (l.p ≤ l.pieces) × (own_below l.at l.p l.t ≡ own_below l.at l.pieces l.initial.t) × (length l.t ≡ length l.initial.t)
