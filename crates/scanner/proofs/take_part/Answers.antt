-- Bytes are taken, then state and place are written, and the steps are counted.
-- Assumes nothing.
use mathlib.Core.Path.{ap₂, ◌∙◌}
use Rattle.scanner.specs.Exact.{took_from}
use Rattle.scanner.proofs.Cases.{moved_stored, took_from_lem}
use Rattle.scanner.proofs.take_part.Goals as goal

pub returns : goal.returns
returns c =
    let a = c.args in
    let state = c.state_of-state in
    let place = c.place_of-place in
    let taken = c.take_bytes-progress in
    let moved = moved_stored _ _ _ _ _ _ _ c.number.ensures c.put2.ensures c.bytes.ensures c.put8.ensures in
    took_from_lem a.t.now a.m.now a.part.now a.room.now state.result.0 place.result.0 taken.result _ _ _ c.steps_since.result
    taken.ensures.0 moved c.steps_since.ensures
    ∙ ap₂ (took_from a.t.now a.m.now a.part.now a.room.now) state.ensures place.ensures
