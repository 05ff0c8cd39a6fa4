-- Where the cursor before it ended where its own began the quarter is right already. Else, after so many turns, the cursor has come so far in it, and so many states of it are listed.
-- Assumes nothing.
use mathlib.Core.Path.{refl}
use Prim.Native.Nat.{◌+◌}
use borrow.Author.Rules.{rules}
use native.Mathlib.Omega.{arith}
use lib.ListN.{get_or}
use Rattle.ahead.proofs.Runs.{next_ready, mended_none, mended_more, mended_same}
use Rattle.ahead.proofs.mend.Goals as goal

pub returns-then-state-began : goal.returns-then-state-began
returns-then-state-began c =
    let a = c.args in
    mended_same a.t.now a.part.now a.from a.k a.state a.ahead.now a.quarter a.began a.ended c.if-state-began.true c.requires.1 c.requires.2

pub loop-i-init : goal.loop-i-init
loop-i-init c =
    let a = c.args in
    (c.state_count-states.ensures.0, c.dense-dense.ensures.0, omega (arith, c.requires.0.inside, c.state_count-states.ensures.0), mended_none a.t.now a.part.now a.from a.k a.state a.ahead.now)

pub next_of-index-requires : goal.next_of-index-requires
next_of-index-requires c =
    let a = c.args in
    let inv = c.loop-i.invariant in
    let place = a.from + c.loop-i.i in
    next_ready a.t.now a.part.now _ _ inv.0 inv.1 a.from a.quarter a.k a.state _ (get_or a.part.now place 0) _ _ c.requires.0 inv.2
    (search rules) c.column.ensures.0 c.column.ensures.2

pub loop-i-preserved : goal.loop-i-preserved
loop-i-preserved c =
    let a = c.args in
    let inv = c.loop-i.invariant in
    let next = c.next_of-index in (
      inv.0,
      inv.1,
      next.ensures.1,
      mended_more a.t.now a.part.now a.from a.k a.state a.ahead.now c.loop-i.i _ _ c.loop-i.index next.result c.loop-i.ahead _ inv.0 inv.1 c.requires.0.quarters inv.3
          next.ensures.0 (omega (arith, c.requires.0.room, c.requires.0.quarters, inv.3.long, c.loop-i-test.true)) refl,
    )
