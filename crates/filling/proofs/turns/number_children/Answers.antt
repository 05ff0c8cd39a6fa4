-- `number_children` meets its contract: before each turn the children by the bytes below have their numbers.
-- Assumes nothing.
use mathlib.Core.Path.{◌≡◌, refl}
use native.Mathlib.Omega.{arith}
use Rattle.filling.specs.Turns.{progress}
use Rattle.filling.proofs.Turning.{children_start, children_further, children_room}
use Rattle.filling.proofs.turns.number_children.Goals as goal

pub loop-byte-init : goal.loop-byte-init
loop-byte-init c =
    let a = c.args in
    (children_start a.count a.onward.now (progress a.t.now a.numbering.now.starts a.numbering.now.states), refl)

pub number_child-requires : goal.number_child-requires
number_child-requires c =
    let a = c.args in
    let l = c.loop-byte in
    let room = children_room a.count a.onward.now (progress a.t.now a.numbering.now.starts a.numbering.now.states) l.byte 256 2048 (omega arith) c.requires.states_bound
    (progress l.t l.numbering.starts l.numbering.states) l.invariant.0 in
    record { whole = omega arith; byte_lt_byte_values = omega arith; states_lt_room_for_states = room }

pub loop-byte-preserved : goal.loop-byte-preserved
loop-byte-preserved c =
    let a = c.args in
    let l = c.loop-byte in
    let further = children_further a.count a.onward.now (progress a.t.now a.numbering.now.starts a.numbering.now.states) l.byte (progress l.t l.numbering.starts l.numbering.states) _
    l.invariant.0 c.number_child.ensures in
    (further, omega arith)

pub returns : goal.returns
returns c =
    let a = c.args in
    let all : c.loop-byte.byte ≡ 256 = omega arith in
    rw all at c.loop-byte.invariant.0
