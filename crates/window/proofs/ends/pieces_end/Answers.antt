-- The walk follows the links; the returns are a piece with no further one, and 256 pieces.
-- Assumes nothing.
use native.Mathlib.Omega.{arith}
use mathlib.Core.Path.{ap, ◌∙◌}
use Rattle.tables.specs.Reads.{as_link}
use Rattle.window.proofs.Ending.{walk_start, walk_whole, walk_next, walk_stop, walk_end}
use Rattle.window.proofs.ends.pieces_end.Goals as goal

pub loop-looked-init : goal.loop-looked-init
loop-looked-init c =
    let a = c.args in
    walk_start a.t.now a.place.0 a.m.now c.none-marks.result (as_link c.first_link-next.result) (omega arith)

pub returns-in_default : goal.returns-in_default
returns-in_default c =
    let a = c.args in
    walk_stop a.t.now a.place.0 a.m.now c.loop-looked.invariant (ap as_link c.in_default.is)
    ∙ walk_whole a.t.now a.place.0 a.m.now a.state.0 c.none-marks.result (as_link c.first_link-next.result)
    c.none-marks.ensures c.first_link-next.ensures.0

pub loop-looked-preserved : goal.loop-looked-preserved
loop-looked-preserved c =
    let a = c.args in
    let ends = c.piece_ends-marks in
    walk_next a.t.now a.place.0 a.m.now c.loop-looked.invariant (omega arith) c.in-Some.piece (ap as_link c.in-Some.is)
    ends.new.m ends.result ends.ensures (as_link c.onward-next.result) c.onward-next.ensures.0 c.onward-next.ensures.1

pub returns : goal.returns
returns c =
    let a = c.args in
    walk_end a.t.now a.place.0 a.m.now c.loop-looked.invariant (omega arith)
    ∙ walk_whole a.t.now a.place.0 a.m.now a.state.0 c.none-marks.result (as_link c.first_link-next.result)
    c.none-marks.ensures c.first_link-next.ensures.0
