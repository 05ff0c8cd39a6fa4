-- Without its flag the slot has nothing to open; else its windows open, and then it is emptied.
-- Assumes nothing.
use mathlib.Core.Path.{sym}
use Rattle.window.proofs.Opening.{slot_quiet, slot_opens}
use Rattle.window.proofs.opens.open_slot.Goals as goal

pub returns-then-m-slot-eq0 : goal.returns-then-m-slot-eq0
returns-then-m-slot-eq0 c =
    let a = c.args in
    sym (slot_quiet a.t.now a.m.now a.place.0 (rw c.slot_of-slot.ensures.0 at c.if-m-slot-eq0.true))

pub returns : goal.returns
returns c =
    let a = c.args in
    let slot = c.slot_of-slot in
    slot_opens a.t.now a.m.now a.place.0 slot.result slot.ensures.0 c.if-m-slot-eq0.false _ _
    c.open_windows.ensures c.empty_slot.ensures
