use mathlib.Core.Path.{◌≡◌}
use Prim.Native.Nat.{◌+◌, ◌≤◌}
use Rattle.columns.specs.Columns.{classed}
use Rattle.columns.proofs.put_classes.Given as goal

abbrev pub invariant-loop-byte : goal.invariant-loop-byte
invariant-loop-byte l = (1 ≤ l.next) × (l.next ≤ l.byte + 1) × (l.t ≡ (classed l.initial.t l.states l.byte).tables) × (l.next ≡ (classed l.initial.t l.states l.byte).next)
