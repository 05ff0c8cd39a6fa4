use Rattle.window.proofs.Words.{Searching}
use Rattle.window.proofs.opens.next_waiting.Given as goal

abbrev pub invariant-loop-word : goal.invariant-loop-word
invariant-loop-word l = Searching l.m l.slot l.p l.word l.j
