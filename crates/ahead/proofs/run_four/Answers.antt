-- After so many turns each cursor has come so far in its quarter, and so many states of it are listed.
-- Assumes nothing.
use native.Mathlib.Omega.{arith}
use Rattle.ahead.proofs.Turns.{below_more}
use Rattle.ahead.proofs.Runs.{turn_ready, ran_none, ran_more}
use Rattle.ahead.proofs.run_four.Goals as goal

pub loop-i-init : goal.loop-i-init
loop-i-init c =
    let a = c.args in
    (c.state_count-states.ensures.0, c.dense-dense.ensures.0, ran_none a.t.now a.part.now a.first a.quarter a.start a.ahead.now c.requires.1)

pub turn-next-requires : goal.turn-next-requires
turn-next-requires c =
    let a = c.args in
    let inv = c.loop-i.invariant in
    turn_ready a.t.now a.part.now _ _ inv.0 inv.1 a.first a.quarter a.count _ _ _ c.requires.0 inv.2.inside c.loop-i-test.true

pub put_four-requires : goal.put_four-requires
put_four-requires c =
    let ready = c.requires.0 in
    let inv = c.loop-i.invariant in (
      omega (arith, ready.room, inv.2.long, c.loop-i-test.true),
      below_more _ _ _ (omega (arith, inv.0, ready.few_states)) c.turn-next.ensures.inside,
    )

pub loop-i-preserved : goal.loop-i-preserved
loop-i-preserved c =
    let a = c.args in
    let inv = c.loop-i.invariant in
    let turn = c.turn-next in (
      inv.0,
      inv.1,
      ran_more a.t.now a.part.now a.first a.quarter a.start a.ahead.now c.loop-i.i _ _ c.loop-i.cursors turn.result c.loop-i.ahead _ inv.0 inv.1 inv.2 turn.ensures
          (omega (arith, c.requires.0.room, inv.2.long, c.loop-i-test.true)) c.put_four.ensures,
    )
