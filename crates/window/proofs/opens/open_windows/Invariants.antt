use Prim.Native.Nat.{◌-◌}
use Rattle.tables.specs.Layout.{room_for_pieces}
use Rattle.window.proofs.Opening.{Opening}
use Rattle.window.proofs.opens.open_windows.Given as goal

abbrev pub invariant-loop-piece : goal.invariant-loop-piece
invariant-loop-piece l = Opening l.t l.place.0 l.slot l.initial.m l.m l.from

abbrev pub decreases-loop-piece : goal.decreases-loop-piece
decreases-loop-piece l = room_for_pieces - l.from
