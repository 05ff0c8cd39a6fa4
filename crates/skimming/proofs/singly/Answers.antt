-- Each turn goes over one place, and what it comes to from there stays the same. The measure is how many bytes are left.
-- Assumes nothing.
use mathlib.Core.Path.{refl, ◌∙◌}
use native.Mathlib.Omega.{arith}
use Rattle.skimming.proofs.Looks.{kept_still, kept_on, ready_on}
use Rattle.skimming.proofs.singly.Goals as goal

pub loop-looking-init : goal.loop-looking-init
loop-looking-init c =
    (c.saturating_sub-stop.ensures, c.requires.0.quiet, kept_still c.args.from, refl)

pub one_more-looking-requires : goal.one_more-looking-requires
one_more-looking-requires c =
    let a = c.args in
    let inv = c.loop-looking.invariant in
    (ready_on a.t.now a.m.now a.ahead.now a.from c.loop-looking.looking c.requires.0 inv.2 inv.1, omega (arith, c.loop-looking-test.true))

pub returns-then-looking : goal.returns-then-looking
returns-then-looking c =
    let a = c.args in
    let inv = c.loop-looking.invariant in
    let one = c.one_more-looking in (
      one.ensures.0 ∙ inv.3,
      kept_on a.from c.loop-looking.looking one.result inv.2 one.ensures.1,
      omega (arith, one.ensures.2, inv.2.left),
    )

pub loop-looking-preserved : goal.loop-looking-preserved
loop-looking-preserved c =
    let a = c.args in
    let inv = c.loop-looking.invariant in
    let one = c.one_more-looking in
    (inv.0, c.if-looking.false, kept_on a.from c.loop-looking.looking one.result inv.2 one.ensures.1, one.ensures.0 ∙ inv.3)

pub returns : goal.returns
returns c =
    let inv = c.loop-looking.invariant in
    (inv.3, inv.2, omega (arith, inv.0, c.loop-looking-test.false, c.requires.1))
