-- `number_states` meets its contract: before each turn the states are numbered as after that many turns, and there is room.
-- Assumes nothing.
use mathlib.Core.Path.{refl, ap, ◌∙◌}
use native.Mathlib.Omega.{arith}
use Rattle.filling.specs.Turns.{progress, with_first, closed}
use Rattle.filling.proofs.Going.{going_start, going_stands, going_room, going_further, going_done}
use Rattle.filling.proofs.turns.number_states.Goals as goal

pub loop-turn-init : goal.loop-turn-init
loop-turn-init c =
    let a = c.args in
    (going_start a.keywords.book.now a.keywords.words.now a.t.now, refl)

pub take_turn-requires : goal.take_turn-requires
take_turn-requires c =
    let a = c.args in
    let l = c.loop-turn in
    let p = progress l.t l.numbering.starts l.numbering.states in
    let stands = going_stands a.keywords.book.now a.keywords.words.now a.t.now l.turn p l.invariant.0 (omega arith) a.keywords.bytes a.keywords.inside c.requires.keywords_bound (omega arith) in
    let room = going_room a.keywords.book.now a.keywords.words.now a.t.now l.turn p l.invariant.0 (omega arith) a.keywords.bytes a.keywords.inside c.requires.keywords_bound (omega arith) in
    record {
      whole = omega arith;
      turn_lt_states = omega arith;
      state_inside = stands.0;
      state_bound = stands.1;
      states_bound = room;
    }

pub loop-turn-preserved : goal.loop-turn-preserved
loop-turn-preserved c =
    let a = c.args in
    let l = c.loop-turn in
    let p = progress l.t l.numbering.starts l.numbering.states in
    let further = going_further a.keywords.book.now a.keywords.words.now a.t.now l.turn p l.invariant.0 (omega arith) a.keywords.bytes a.keywords.inside c.requires.keywords_bound (omega arith) in
    (further _ c.take_turn.ensures, omega arith)

pub returns : goal.returns
unfolding closed with_first
returns c =
    let a = c.args in
    let l = c.loop-turn in
    let done = going_done a.keywords.book.now a.keywords.words.now a.t.now l.turn (progress l.t l.numbering.starts l.numbering.states) l.invariant.0 (omega arith) in
    record { value = ap (λ p. p.states) done; t_after = c.put2.ensures ∙ ap closed done }
