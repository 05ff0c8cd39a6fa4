use Rattle.tables.specs.Reads.{as_link}
use Rattle.window.proofs.Ending.{Walk, whole}
use Rattle.window.proofs.ends.pieces_end.Given as goal

abbrev pub invariant-loop-looked : goal.invariant-loop-looked
invariant-loop-looked l = Walk l.t l.place.0 l.initial.m (whole l.t l.place.0 l.initial.m l.initial.marks (as_link l.initial.next)) l.m l.marks (as_link l.next) l._looked
