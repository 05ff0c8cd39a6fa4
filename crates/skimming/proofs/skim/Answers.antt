-- Each turn goes over at most eight places one by one, and then by eights, and what it comes to from there stays the same. The measure is how many
-- bytes are left.
-- Assumes nothing.
use mathlib.Core.Path.{refl}
use native.Mathlib.Omega.{arith}
use lib.ListN.{length}
use Rattle.skimming.proofs.Looks.{kept_still, kept_on, same_on, ready_on, way_ready, settled_event, settled_end}
use Rattle.skimming.proofs.Skimmed.{start_of, start_ready, skimmed_none, skimmed_some}
use Rattle.skimming.proofs.skim.Goals as goal

pub returns-then-part-from : goal.returns-then-part-from
returns-then-part-from c =
    let a = c.args in
    skimmed_none a.t.now a.m.now a.part.now a.ahead.now a.first a.k a.from c.requires c.if-part-from.true _ refl

pub overflow_mul-looking : goal.overflow_mul-looking
overflow_mul-looking c =
    let start = c.requires in
    omega (arith, start.glide.within, start.glide.short)

pub overflow_add-looking : goal.overflow_add-looking
overflow_add-looking c =
    let start = c.requires in
    omega (arith, start.glide.within, start.glide.short, start.one_of_four)

pub loop-looking-init : goal.loop-looking-init
loop-looking-init c =
    let a = c.args in
    (refl, kept_still (start_of a.part.now a.first a.k a.from), refl)

pub singly-looking-requires : goal.singly-looking-requires
singly-looking-requires c =
    let a = c.args in
    let inv = c.loop-looking.invariant in
    let first = start_ready a.t.now a.m.now a.part.now a.ahead.now a.first a.k a.from c.requires (omega (arith, c.if-part-from.false)) in
    (ready_on a.t.now a.m.now a.ahead.now (start_of a.part.now a.first a.k a.from) c.loop-looking.looking first inv.1 inv.0, c.loop-looking-test.true)

pub way_to-requires : goal.way_to-requires
way_to-requires c =
    let a = c.args in
    let start = start_of a.part.now a.first a.k a.from in
    let one = c.singly-looking in
    let first = start_ready a.t.now a.m.now a.part.now a.ahead.now a.first a.k a.from c.requires (omega (arith, c.if-part-from.false)) in
    let kept = kept_on start c.loop-looking.looking one.result c.loop-looking.invariant.1 one.ensures.1 in
    way_ready a.t.now a.m.now a.ahead.now (length a.part.now) start one.result first kept (omega (arith, one.ensures.2, c.loop-looking.invariant.1.left)) (omega arith)

pub returns-then-looking : goal.returns-then-looking
returns-then-looking c =
    let a = c.args in
    let start = start_of a.part.now a.first a.k a.from in
    let one = c.singly-looking in
    let last = one.result in
    let kept = kept_on start c.loop-looking.looking last c.loop-looking.invariant.1 one.ensures.1 in
    skimmed_some a.t.now a.m.now a.part.now a.ahead.now a.first a.k a.from c.requires last kept (omega (arith, one.ensures.2, c.loop-looking.invariant.1.left))
    c.way_to.result (same_on a.t.now a.m.now a.ahead.now start c.loop-looking.looking last c.loop-looking.invariant.2 one.ensures.0)
    (settled_event a.t.now a.m.now a.ahead.now last.at last.left last.place.0 last.gains last.event c.if-looking.true) c.way_to.ensures

pub by_eights-looking-requires : goal.by_eights-looking-requires
by_eights-looking-requires c =
    let a = c.args in
    let start = start_of a.part.now a.first a.k a.from in
    let one = c.singly-looking in
    let first = start_ready a.t.now a.m.now a.part.now a.ahead.now a.first a.k a.from c.requires (omega (arith, c.if-part-from.false)) in
    ready_on a.t.now a.m.now a.ahead.now start one.result first (kept_on start c.loop-looking.looking one.result c.loop-looking.invariant.1 one.ensures.1) c.if-looking.false

pub loop-looking-preserved : goal.loop-looking-preserved
loop-looking-preserved c =
    let a = c.args in
    let start = start_of a.part.now a.first a.k a.from in
    let one = c.singly-looking in
    let eights = c.by_eights-looking in
    let kept = kept_on start c.loop-looking.looking one.result c.loop-looking.invariant.1 one.ensures.1 in
    let same = same_on a.t.now a.m.now a.ahead.now start c.loop-looking.looking one.result c.loop-looking.invariant.2 one.ensures.0 in (
      eights.ensures.2,
      kept_on start one.result eights.result kept eights.ensures.1,
      same_on a.t.now a.m.now a.ahead.now start one.result eights.result same eights.ensures.0,
    )

pub way_to-requires-2 : goal.way_to-requires-2
way_to-requires-2 c =
    let a = c.args in
    let start = start_of a.part.now a.first a.k a.from in
    let some = c.if-part-from.false in
    let first = start_ready a.t.now a.m.now a.part.now a.ahead.now a.first a.k a.from c.requires (omega (arith, some)) in
    way_ready a.t.now a.m.now a.ahead.now (length a.part.now) start c.loop-looking.looking first c.loop-looking.invariant.1 (omega (arith, c.loop-looking-test.false, some)) (omega arith)

pub returns : goal.returns
returns c =
    let a = c.args in
    let some = c.if-part-from.false in
    let last = c.loop-looking.looking in
    let inv = c.loop-looking.invariant in
    skimmed_some a.t.now a.m.now a.part.now a.ahead.now a.first a.k a.from c.requires last inv.1 (omega (arith, c.loop-looking-test.false, some))
    c.way_to-2.result inv.2
    (settled_end a.t.now a.m.now a.ahead.now last.at last.left last.place.0 last.gains last.event inv.0 (omega (arith, c.loop-looking-test.false)))
    c.way_to-2.ensures
