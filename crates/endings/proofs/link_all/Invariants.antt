use mathlib.Core.Path.{◌≡◌}
use Prim.Native.Nat.{◌≤◌}
use lib.ListN.{length}
use Rattle.endings.specs.Filled.{linked_below}
use Rattle.endings.proofs.link_all.Given as goal

abbrev pub invariant-loop-p : goal.invariant-loop-p
invariant-loop-p l = (l.p ≤ l.pieces) × (l.t ≡ linked_below l.at l.p l.initial.t) × (length l.t ≡ length l.initial.t)
