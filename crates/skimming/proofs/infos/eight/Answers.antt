-- After so many turns it is the sum of so many.
-- Assumes nothing.
use mathlib.Core.Path.{refl, ◌∙◌}
use native.Mathlib.Omega.{arith}
use Rattle.skimming.specs.Infos.{infos_in}
use Rattle.skimming.proofs.Eights.{infos_more}
use Rattle.skimming.proofs.infos.eight.Goals as goal

pub loop-i-init : goal.loop-i-init
unfolding infos_in
loop-i-init c = (refl, omega arith)

pub info-requires : goal.info-requires
info-requires c =
    let next = c.requires.states c.loop-i.i c.loop-i-test.true in
    omega (arith, next, c.numbered.ensures)

pub loop-i-preserved : goal.loop-i-preserved
loop-i-preserved c =
    let a = c.args in
    (infos_more a.t.now a.ahead.now a.at c.loop-i.i _ _ c.loop-i.invariant.0 (c.from-sum.ensures ∙ c.info.ensures) c.numbered.ensures, omega (arith, c.from-sum.ensures, c.loop-i.invariant.1))
