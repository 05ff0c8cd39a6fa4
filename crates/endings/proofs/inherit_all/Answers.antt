-- After i turns the memory is that of the states below i.
-- Assumes nothing.
use mathlib.Core.Path.{◌≡◌, refl, ap, ◌∙◌}
use native.Mathlib.Omega.{arith}
use Rattle.endings.specs.Filled.{with_inherited, inherited_below}
use Rattle.endings.proofs.Turns.{inherited_turn}
use Rattle.endings.proofs.inherit_all.Goals as goal

pub loop-i-init : goal.loop-i-init
unfolding inherited_below
loop-i-init c = (omega arith, refl, refl)

pub inherit-requires : goal.inherit-requires
inherit-requires c = (omega arith, omega (arith, c.numbered.ensures))

pub loop-i-preserved : goal.loop-i-preserved
loop-i-preserved c =
    (omega arith, inherited_turn c.loop-i.i c.args.t.now c.loop-i.t _ c.loop-i.invariant.1 (c.inherit.ensures ∙ ap (with_inherited c.loop-i.t) c.numbered.ensures), omega arith)

pub returns : goal.returns
returns c =
    let done : c.loop-i.i ≡ c.args.states = omega arith in
    rw done at c.loop-i.invariant.1
