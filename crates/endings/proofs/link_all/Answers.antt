-- After p turns the memory is that of the pieces below p.
-- Assumes nothing.
use mathlib.Core.Path.{◌≡◌, refl}
use native.Mathlib.Omega.{arith}
use Rattle.endings.specs.Filled.{linked_below}
use Rattle.endings.proofs.Turns.{linked_turn}
use Rattle.endings.proofs.link_all.Goals as goal

pub loop-p-init : goal.loop-p-init
unfolding linked_below
loop-p-init c = (omega arith, refl, refl)

pub link_on-requires : goal.link_on-requires
link_on-requires c =
    (omega arith, omega (arith, c.numbered.ensures, c.requires.2 c.loop-p.p), omega arith)

pub loop-p-preserved : goal.loop-p-preserved
loop-p-preserved c =
    let a = c.args in
    (omega arith, linked_turn a.at.now c.loop-p.p a.t.now c.loop-p.t _ _ c.loop-p.invariant.1 c.numbered.ensures c.link_on.ensures, omega arith)

pub returns : goal.returns
returns c =
    let done : c.loop-p.p ≡ c.args.pieces = omega arith in
    rw done at c.loop-p.invariant.1
