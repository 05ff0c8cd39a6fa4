-- Before each turn the states with smaller numbers have their depths.
-- Assumes nothing.
use mathlib.Core.Path.{◌≡◌, refl}
use native.Mathlib.Omega.{arith}
use Rattle.depths.specs.Depths.{with_depths}
use Rattle.depths.proofs.Turns.{depths_turn}
use Rattle.depths.proofs.put_depths.Goals as goal

pub loop-i-init : goal.loop-i-init
unfolding with_depths
loop-i-init c = refl

pub loop-i-preserved : goal.loop-i-preserved
loop-i-preserved c = depths_turn c.args.t.now c.loop-i.i _ c.loop-i.t _ (omega arith) c.loop-i.invariant c.numbered.ensures c.put_depth.ensures

pub returns : goal.returns
returns c =
    let done : c.loop-i.i ≡ c.args.states = omega arith in
    rw done at c.loop-i.invariant
