use mathlib.Core.Path.{◌≡◌}
use lib.ListN.{length}
use Rattle.filling.specs.Turns.{progress}
use Rattle.filling.proofs.Going.{Going}
use Rattle.filling.proofs.turns.number_states.Given as goal

abbrev pub invariant-loop-turn : goal.invariant-loop-turn
invariant-loop-turn l =
    Going l.keywords.book.now l.keywords.words.now l.initial.t l.turn (progress l.t l.numbering.starts l.numbering.states) × (length l.t ≡ length l.initial.t)
