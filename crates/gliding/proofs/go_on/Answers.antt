-- The returns are the cases of what is found for the byte: no state, a quiet one, and one where something happens.
-- Assumes nothing.
use mathlib.Core.Path.{sym, ◌∙◌}
use mathlib.Core.Bool.{true, false}
use native.Mathlib.Omega.{arith}
use Rattle.gliding.specs.Going.{gone_to}
use Rattle.gliding.proofs.Turns.{one_stray, one_found}
use Rattle.gliding.proofs.go_on.Goals as goal

pub returns-then-states-next : goal.returns-then-states-next
returns-then-states-next c =
    let a = c.args in
    let start = c.requires in
    let next = c.sought-next in (
      one_stray a.t.now a.m.now (gone_to a.from) a.byte a.states a.dense start.counted start.rows next.result next.ensures.0
          _ c.next-place.ensures c.if-states-next.true _ _ _ c.is_quiet.result c.root.ensures (c.from.ensures ∙ c.gain.ensures)
          c.root-then-states-next.ensures (sym c.is_quiet.ensures),
      record { inside = omega arith; place = c.next-place.ensures; taken = omega arith; few_gains = omega arith },
    )

pub returns-then-is_quiet : goal.returns-then-is_quiet
returns-then-is_quiet c =
    let a = c.args in
    let start = c.requires in
    let next = c.sought-next in
    let quiet = c.is_quiet-2 in
    let one = one_found a.t.now a.m.now (gone_to a.from) a.byte a.states a.dense start.counted start.rows next.result next.ensures.0
    _ c.next-place.ensures (omega (arith, c.if-states-next.false)) _ _ _ true c.state_at.ensures
    (c.from-2.ensures ∙ c.gain-2.ensures) c.state_at-2.ensures (sym quiet.ensures ∙ c.if-is_quiet.true) in (
      one,
      record { inside = omega (arith, c.if-states-next.false); place = c.next-place.ensures; taken = omega arith; few_gains = omega arith },
    )

pub returns : goal.returns
returns c =
    let a = c.args in
    let start = c.requires in
    let next = c.sought-next in
    let quiet = c.is_quiet-2 in
    let one = one_found a.t.now a.m.now (gone_to a.from) a.byte a.states a.dense start.counted start.rows next.result next.ensures.0
    _ c.next-place.ensures (omega (arith, c.if-states-next.false)) _ _ _ false c.state_at.ensures
    (c.from-2.ensures ∙ c.gain-2.ensures) c.state_at-2.ensures (sym quiet.ensures ∙ c.if-is_quiet.false) in (
      one,
      record { inside = omega (arith, c.if-states-next.false); place = c.next-place.ensures; taken = omega arith; few_gains = omega arith },
    )
