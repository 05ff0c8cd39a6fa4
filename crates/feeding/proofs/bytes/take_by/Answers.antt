-- Each turn goes over the bytes at which nothing happens and does what happens at the next, and what is left comes to what was left before. The
-- measure is how many bytes remain.
-- Assumes nothing.
use native.Mathlib.Omega.{arith}
use borrow.Author.Tests.{not-true, not-false}
use Rattle.feeding.proofs.Loop.{turning_start, turning_ready, turning_full, turning_quiet, turning_happens, turning_next, turning_less, way_begins, way_goes}
use Rattle.feeding.proofs.bytes.take_by.Goals as goal

pub loop-written-init : goal.loop-written-init
loop-written-init g c = (turning_start c.requires.0 c.phrase_count-phrases.ensures.0, way_begins)

pub returns-then-not-went : goal.returns-then-not-went
returns-then-not-went g c =
    let inv = c.loop-written.invariant in
    let gone = c.requires.1.glides _ _ _ (turning_ready inv.0) inv.1 c.step-went.ensures in
    turning_quiet inv.0 (omega (arith, c.loop-written-test.true)) gone.0 gone.1 (not-true _ c.if-not-went.true)

pub happen-written-requires : goal.happen-written-requires
happen-written-requires g c =
    let inv = c.loop-written.invariant in
    let gone = c.requires.1.glides _ _ _ (turning_ready inv.0) inv.1 c.step-went.ensures in
    turning_happens inv.0 (omega (arith, c.loop-written-test.true)) gone.0 gone.1

pub loop-written-smaller : goal.loop-written-smaller
loop-written-smaller g c =
    let inv = c.loop-written.invariant in
    let gone = c.requires.1.glides _ _ _ (turning_ready inv.0) inv.1 c.step-went.ensures in
    turning_less inv.0 (omega (arith, c.loop-written-test.true)) gone.0 gone.1 (not-false _ c.if-not-went.false)

pub loop-written-preserved : goal.loop-written-preserved
loop-written-preserved g c =
    let inv = c.loop-written.invariant in
    let gone = c.requires.1.glides _ _ _ (turning_ready inv.0) inv.1 c.step-went.ensures in
    let done = c.happen-written in (
      turning_next inv.0 (omega (arith, c.loop-written-test.true)) gone.0 gone.1 (not-false _ c.if-not-went.false) done.ensures done.auto.m done.auto.room,
      way_goes _ (turning_ready inv.0).within inv.1 gone.0,
    )

pub returns : goal.returns
returns g c = turning_full c.loop-written.invariant.0 (omega (arith, c.loop-written-test.false))
