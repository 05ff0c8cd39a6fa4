use mathlib.Core.Path.{◌≡◌}
use Rattle.filling.specs.Onward.{onward_from}
use Rattle.filling.proofs.onward.onward_from.Given as goal

abbrev pub invariant-loop-q : goal.invariant-loop-q
invariant-loop-q l = l.onward ≡ onward_from l.keywords.book.now l.keywords.words.now l.state l.q
