-- Each turn goes over eight places, and what it comes to from there stays the same. The measure is how many bytes are left.
-- Assumes nothing.
use mathlib.Core.Path.{refl, ap, ◌∙◌}
use native.Mathlib.Omega.{arith}
use Rattle.running.specs.Waiting.{slot_of}
use Rattle.skimming.proofs.Looks.{kept_still, kept_on, kept_further, ready_on}
use Rattle.skimming.proofs.Eights.{eight_ready, eight_places}
use Rattle.skimming.proofs.by_eights.Goals as goal

pub loop-looking-init : goal.loop-looking-init
loop-looking-init c =
    (c.requires.quiet, kept_still c.args.from, refl)

pub returns-then-slot-gt-LAST_SLOT : goal.returns-then-slot-gt-LAST_SLOT
returns-then-slot-gt-LAST_SLOT c =
    let inv = c.loop-looking.invariant in
    (inv.2, inv.1, inv.0)

pub eight-sum-requires : goal.eight-sum-requires
eight-sum-requires c =
    let a = c.args in
    let inv = c.loop-looking.invariant in
    let looking = c.loop-looking.looking in
    eight_ready a.t.now a.m.now a.ahead.now looking (ready_on a.t.now a.m.now a.ahead.now a.from looking c.requires inv.1 inv.0)
    (omega (arith, c.loop-looking-test.true))

pub returns-then-sum-ge-ENDING : goal.returns-then-sum-ge-ENDING
returns-then-sum-ge-ENDING c =
    let inv = c.loop-looking.invariant in
    (inv.2, inv.1, inv.0)

pub returns-then-flags-ne0 : goal.returns-then-flags-ne0
returns-then-flags-ne0 c =
    let inv = c.loop-looking.invariant in
    (inv.2, inv.1, inv.0)

pub loop-looking-preserved : goal.loop-looking-preserved
loop-looking-preserved c =
    let a = c.args in
    let inv = c.loop-looking.invariant in
    let from = c.loop-looking.looking in
    let enough = c.loop-looking-test.true in
    let on = eight_places a.t.now a.m.now a.ahead.now from.at from.left from.place.0 from.gains from.event inv.0 enough
    c.eight-sum.result c.slot_of-slot.result c.later-place.result.0 c.eight-sum.ensures.0 (omega (arith, c.if-sum-ge-ENDING.false))
    (c.slot_of-slot.ensures.0 ∙ ap slot_of c.next.ensures) (omega (arith, c.if-slot-gt-LAST_SLOT.false)) (omega (arith, c.get8-flags.ensures, c.if-flags-ne0.false)) c.later-place.ensures in (
      refl,
      kept_on a.from from _ inv.1 (kept_further 8 from _ enough refl refl c.later-place.ensures (omega (arith, c.if-sum-ge-ENDING.false))),
      on ∙ inv.2,
    )

pub returns : goal.returns
returns c =
    let inv = c.loop-looking.invariant in
    (inv.2, inv.1, inv.0)
