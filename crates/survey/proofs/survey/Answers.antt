-- The loop keeps: reading on from here leads to the whole survey. Assumes nothing.
use mathlib.Core.Path.{ap}
use native.Mathlib.Omega.{arith}
use Rattle.survey.specs.declared.progress.Progress.{Progress}
use Rattle.survey.specs.Turns.{Reading, noted, reading}
use Rattle.survey.specs.Survey.{counts_of}
use Rattle.survey.proofs.Loop.{going_start, going_more, going_done}
use Rattle.survey.proofs.survey.Goals as goal

pub loop-progress-init : goal.loop-progress-init
loop-progress-init c =
    let a = c.args in
    let before = noted a.t.now a.words.now in
    going_start a.book.now before (reading c.start-progress.result before) (ap (λ (p : Progress). reading p before) c.start-progress.ensures)

pub turn-progress-requires : goal.turn-progress-requires
turn-progress-requires c = omega (arith, c.loop-progress.invariant.long)

pub loop-progress-smaller : goal.loop-progress-smaller
loop-progress-smaller c =
    let a = c.args in
    let l = c.loop-progress in
    let more = going_more a.book.now (noted a.t.now a.words.now) (reading l.progress (noted l.t l.words)) l.invariant (omega arith) _
    c.turn-progress.ensures in
    omega (arith, more.0)

pub loop-progress-preserved : goal.loop-progress-preserved
loop-progress-preserved c =
    let a = c.args in
    let l = c.loop-progress in
    let more = going_more a.book.now (noted a.t.now a.words.now) (reading l.progress (noted l.t l.words)) l.invariant (omega arith) _
    c.turn-progress.ensures in
    more.1

pub shape_of-t : goal.shape_of-t
shape_of-t c = c.loop-progress.invariant.long

pub returns : goal.returns
returns c =
    let a = c.args in
    let done = going_done a.book.now (noted a.t.now a.words.now) (reading c.loop-progress.progress (noted c.loop-progress.t c.loop-progress.words)) c.loop-progress.invariant (omega arith) in
    record { counts = ap counts_of done; notes = ap (λ (r : Reading). r.notes) done }
