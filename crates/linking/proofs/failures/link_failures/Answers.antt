-- `link_failures` meets its contract: before each turn the children of the states with smaller numbers have their failures.
-- Assumes nothing.
use native.Mathlib.Omega.{arith}
use Rattle.linking.proofs.Turns.{parents_start, parents_further, parents_done}
use Rattle.linking.proofs.failures.link_failures.Goals as goal

pub loop-parent-init : goal.loop-parent-init
loop-parent-init c = let a = c.args in (omega arith, parents_start a.t.now a.states)

pub loop-parent-preserved : goal.loop-parent-preserved
loop-parent-preserved c =
    let a = c.args in
    let state = c.numbered in
    (omega arith, parents_further a.t.now a.states c.loop-parent.parent state.result.0 c.loop-parent.t _ (omega arith) state.ensures c.loop-parent.invariant.1 c.link_children.ensures)

pub returns : goal.returns
returns c =
    let a = c.args in
    parents_done a.t.now a.states c.loop-parent.parent c.loop-parent.t (omega arith) c.loop-parent.invariant.1
