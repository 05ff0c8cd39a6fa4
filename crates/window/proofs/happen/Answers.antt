-- The three calls are the three parts of the definition.
-- Assumes nothing.
use Rattle.window.proofs.Happened.{happens}
use Rattle.window.proofs.happen.Goals as goal

pub returns : goal.returns
returns c =
    let a = c.args in
    happens a.t.now a.state.0 a.place.0 (record { written = a.written; room = a.room.now }) a.m.now _ _ _ _
    c.open_slot.ensures c.pieces_end-marks.ensures c.put_reports.ensures
