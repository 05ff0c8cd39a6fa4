-- What happens at a place once the state is known. Assumes nothing: these are definitions.
use Rattle.std.specs.Prelude.{List, ℕ}
use Rattle.marks.specs.Marked.{no_marks}
use Rattle.marks.specs.Reported.{Reports, room_with, reported}
use Rattle.window.specs.Opening.{slot_opened}
use Rattle.window.specs.Ending.{Ended, pieces_in, pieces_ended}

-- The reports written so far, and the running memory.
pub record Here : Type 0 where
  pub reports : Reports
  pub memory : List ℕ

abbrev pub here_with : ℕ → List ℕ → List ℕ → Here
here_with written room m = record { reports = room_with written room; memory = m }

-- The windows of the place open before any piece is looked at: a piece whose window opens here may end here, and a window
-- that has to wait 256 places goes into the slot just emptied.
unfoldable pub ended_at : List ℕ → ℕ → ℕ → List ℕ → Ended
ended_at t state place m = pieces_ended t place (record { marks = no_marks; memory = slot_opened t m place }) (pieces_in t state)

-- The windows of the place open, the pieces of the state end, and the phrases that were marked are reported.
unfoldable pub happened : List ℕ → ℕ → ℕ → Here → Here
happened t state place here =
    let ended : Ended = ended_at t state place here.memory in
    record { reports = reported t place ended.marks here.reports; memory = ended.memory }
