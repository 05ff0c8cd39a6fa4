-- `take_turn` meets its contract: it is the definition's turn, part by part.
-- Assumes nothing.
use mathlib.Core.Path.{ap}
use native.Mathlib.Omega.{arith}
use Rattle.filling.specs.Turns.{progress, with_first, state_stretch, stretch_of}
use Rattle.filling.proofs.Turning.{turn_taken, turn_room}
use Rattle.filling.proofs.turns.take_turn.Goals as goal

pub onward_from-onward-requires : goal.onward_from-onward-requires
unfolding state_stretch stretch_of
onward_from-onward-requires c =
    rw c.stretch-state.ensures c.requires.state_inside

pub overflow_add-state : goal.overflow_add-state
unfolding state_stretch stretch_of
overflow_add-state c = rw c.stretch-state.ensures (omega (arith, c.requires.state_bound))

pub number_children-requires : goal.number_children-requires
unfolding with_first
number_children-requires c =
    let a = c.args in
    let room = turn_room a.keywords.book.now a.keywords.words.now a.turn (progress a.t.now a.numbering.now.starts a.numbering.now.states) _ _ c.stretch-state.result
    (ap (λ w. progress w a.numbering.now.starts a.numbering.now.states) c.put2.ensures) c.stretch-state.ensures c.onward_from-onward.ensures
    2048 c.requires.states_bound in
    record { whole = omega arith; states_bound = room }

pub returns : goal.returns
unfolding with_first
returns c =
    let a = c.args in
    turn_taken a.keywords.book.now a.keywords.words.now a.turn (progress a.t.now a.numbering.now.starts a.numbering.now.states) _ _ c.stretch-state.result
    (ap (λ w. progress w a.numbering.now.starts a.numbering.now.states) c.put2.ensures) c.stretch-state.ensures c.onward_from-onward.ensures
    c.number_children.ensures
