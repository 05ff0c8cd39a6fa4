-- `state_of_keyword` meets its contract: before each turn the state is that of the bytes so far.
-- Assumes nothing.
use mathlib.Core.Path.{◌≡◌, ap, ◌∙◌}
use native.Mathlib.Omega.{arith}
use lib.ListN.{length, get_or}
use Rattle.stepping.specs.Steps.{child_by_in}
use Rattle.stepping.proofs.Turns.{or_root}
use Rattle.stepping.proofs.Right.{child_below}
use Rattle.linking.specs.Keywords.{state_down}
use Rattle.linking.proofs.Words.{down_further}
use Rattle.linking.proofs.keywords.state_of_keyword.Goals as goal

pub loop-byte-init : goal.loop-byte-init
unfolding state_down
loop-byte-init c = (c.root-state.ensures, omega arith)

pub loop-byte-preserved : goal.loop-byte-preserved
loop-byte-preserved c =
    let a = c.args in
    let here = c.loop-byte.state.0 in
    let byte = get_or a.keyword.now c.loop-byte.byte-index 0 in
    let next : c.unwrap_or-state.result.0 ≡ child_by_in a.t.now a.states here byte =
    rw c.unwrap_or-state.ensures (or_root c.child_by-child.result c.root.result c.root.ensures) ∙ c.child_by-child.ensures.value in
    let below = child_below a.t.now a.states here byte (omega arith) in
    (down_further a.t.now a.states a.keyword.now c.loop-byte.byte-index here _ c.loop-byte.invariant.0 next, omega (arith, next, below))

pub returns : goal.returns
returns c =
    let a = c.args in
    let all : c.loop-byte.byte-index ≡ length a.keyword.now = omega arith in
    (c.loop-byte.invariant.0 ∙ ap (state_down a.t.now a.states a.keyword.now) all, omega arith)
