use mathlib.Core.Path.{◌≡◌}
use Rattle.linking.specs.Keywords.{keyword_states}
use Rattle.linking.proofs.keywords.keyword_states.Given as goal

abbrev pub invariant-loop-q : goal.invariant-loop-q
invariant-loop-q l = l.found ≡ keyword_states l.t l.states l.keywords.book.now l.keywords.words.now l.q
