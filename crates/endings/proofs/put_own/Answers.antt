-- What is still to do from the current memory is what was to do from the first: each turn takes one piece off.
-- Assumes nothing.
use mathlib.Core.Path.{◌≡◌, refl, sym, ◌∙◌}
use Prim.Native.Nat.{◌-◌}
use native.Mathlib.Omega.{arith}
use Rattle.endings.specs.Filled.{own_below}
use Rattle.endings.proofs.Turns.{own_turn}
use Rattle.endings.proofs.put_own.Goals as goal

pub loop-p-init : goal.loop-p-init
loop-p-init c = (omega arith, refl, refl)

pub put_first-requires : goal.put_first-requires
put_first-requires c =
    (omega arith, omega (arith, c.numbered.ensures, c.requires.2 (c.loop-p.p - 1)), omega arith)

pub loop-p-preserved : goal.loop-p-preserved
loop-p-preserved c =
    let a = c.args in
    let turn = own_turn a.at.now c.loop-p.p c.loop-p.t _ _ (omega arith) c.numbered.ensures c.put_first.ensures in
    (omega arith, sym turn ∙ c.loop-p.invariant.1, omega arith)

pub returns : goal.returns
unfolding own_below
returns c =
    let done : c.loop-p.p ≡ 0 = omega arith in
    rw done at c.loop-p.invariant.1
