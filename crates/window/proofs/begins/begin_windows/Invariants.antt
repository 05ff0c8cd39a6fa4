use mathlib.Core.Path.{◌≡◌}
use Prim.Native.Nat.{◌≤◌}
use lib.ListN.{length}
use Rattle.window.specs.Begun.{firsts_waiting}
use Rattle.window.proofs.begins.begin_windows.Given as goal

abbrev pub invariant-loop-piece : goal.invariant-loop-piece
invariant-loop-piece l = (l.piece ≤ l.pieces) × (l.m ≡ firsts_waiting l.t l.initial.m l.piece) × (length l.m ≡ length l.initial.m)
