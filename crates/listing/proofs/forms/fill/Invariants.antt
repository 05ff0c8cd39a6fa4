use Rattle.listing.proofs.Filling.{Filling}
use Rattle.listing.proofs.forms.fill.Given as goal

abbrev pub invariant-loop-byte : goal.invariant-loop-byte
invariant-loop-byte l = Filling l.initial.line l.form l.numbers l.line l.end l.k l.byte-index
