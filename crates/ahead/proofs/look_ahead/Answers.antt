-- Each quarter begins in the state in which the one before it ended, because it is looked up again where it does not.
-- Assumes nothing.
use mathlib.Core.Path.{◌∙◌}
use Prim.Native.Nat.{◌*◌}
use native.Mathlib.Omega.{arith}
use Rattle.ahead.proofs.Runs.{kept_over}
use Rattle.ahead.proofs.Quarters.{run_ready, mending_start, mending_ready, mending_inside, mending_more, mending_all}
use Rattle.ahead.proofs.look_ahead.Goals as goal

pub run_four-ends-requires : goal.run_four-ends-requires
run_four-ends-requires c =
    let a = c.args in
    let guess = c.guessed-start.ensures in
    (run_ready a.t.now a.part.now a.first a.quarter a.state.0 a.ahead.now c.requires _ guess.long, guess.inside)

pub loop-k-init : goal.loop-k-init
loop-k-init c =
    let a = c.args in
    mending_start a.t.now a.part.now a.first a.quarter a.state.0 _ _ _ _ c.run_four-ends.ensures c.guessed-start.ensures.at_hand

pub mend-end-requires : goal.mend-end-requires
mend-end-requires c =
    let a = c.args in
    let ran = c.run_four-ends.ensures in
    let inside = mending_inside a.t.now a.part.now a.first a.quarter a.state.0 _ _ _ _ _ c.loop-k.invariant c.requires.inside in
    mending_ready a.t.now a.part.now a.first a.quarter a.state.0 _ _ _ _ ran a.ahead.now _ _ _ _ _ c.requires (ran.long ∙ c.guessed-start.ensures.long) c.loop-k.invariant c.loop-k-test.true inside

pub loop-k-preserved : goal.loop-k-preserved
loop-k-preserved c =
    let a = c.args in
    mending_more a.t.now a.part.now a.first a.quarter a.state.0 _ _ _ _ _ _ _ _ c.loop-k.invariant c.loop-k-test.true (omega arith) c.mend-end.ensures

pub shape_of-ahead : goal.shape_of-ahead
shape_of-ahead c = c.loop-k.invariant.long ∙ c.run_four-ends.ensures.long ∙ c.guessed-start.ensures.long

pub returns : goal.returns
returns c =
    let a = c.args in
    let guess = c.guessed-start.ensures in
    let ran = c.run_four-ends.ensures in
    let mending = c.loop-k.invariant in (
      mending_all a.t.now a.part.now a.first a.quarter a.state.0 _ _ _ _ _ c.loop-k-test.false mending,
      mending.long ∙ ran.long ∙ guess.long,
      kept_over (4 * a.quarter) 128 a.ahead.now _ _ (omega (arith, c.requires.least)) guess.behind (kept_over (4 * a.quarter) (4 * a.quarter) _ _ _ (omega arith) ran.behind mending.behind),
    )
