-- After so many turns the bytes below that number have their classes, of which there are at most as many as bytes.
-- Assumes nothing.
use mathlib.Core.Path.{◌≡◌, refl}
use native.Mathlib.Omega.{arith}
use Rattle.columns.specs.Columns.{classed}
use Rattle.columns.proofs.Turns.{classed_turn}
use Rattle.columns.proofs.put_classes.Goals as goal

pub loop-byte-init : goal.loop-byte-init
unfolding classed
loop-byte-init c = (omega arith, omega arith, refl, refl)

pub loop-byte-preserved : goal.loop-byte-preserved
loop-byte-preserved c =
    let a = c.args in
    let put = c.put_class-next in
    let before = c.loop-byte.invariant in
    let turn = classed_turn a.t.now a.states c.loop-byte.byte c.loop-byte.t _ c.loop-byte.next _ before.2 before.3 put.ensures.value.0 put.ensures.value.1 in
    (omega arith, omega arith, turn.0, turn.1)

pub returns-2-clause-value : goal.returns-2-clause-value
returns-2-clause-value c =
    let a = c.args in
    let put = c.put_class-next in
    let before = c.loop-byte.invariant in
    let last : c.loop-byte.byte ≡ 255 = omega arith in
    let turn = classed_turn a.t.now a.states c.loop-byte.byte c.loop-byte.t _ c.loop-byte.next _ before.2 before.3 put.ensures.value.0 put.ensures.value.1 in
    (rw last at turn.1, rw last at turn.0)
