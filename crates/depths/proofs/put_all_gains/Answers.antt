-- Before each turn the children of the states with smaller numbers have their gains.
-- Assumes nothing.
use mathlib.Core.Path.{◌≡◌, refl}
use native.Mathlib.Omega.{arith}
use Rattle.depths.specs.Depths.{with_gains_below}
use Rattle.depths.proofs.Turns.{parents_turn}
use Rattle.depths.proofs.put_all_gains.Goals as goal

pub loop-parent-init : goal.loop-parent-init
unfolding with_gains_below
loop-parent-init c = refl

pub loop-parent-preserved : goal.loop-parent-preserved
loop-parent-preserved c =
    let a = c.args in
    parents_turn a.t.now a.states c.loop-parent.parent _ c.loop-parent.t _ c.loop-parent.invariant c.numbered.ensures c.put_gains.ensures

pub returns : goal.returns
returns c =
    let done : c.loop-parent.parent ≡ c.args.states = omega arith in
    rw done at c.loop-parent.invariant
