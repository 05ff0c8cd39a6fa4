-- The bytes that a call takes, whatever the tables and the running memory hold. Assumes nothing: these are definitions.
use Rattle.std.specs.Prelude.{cond, List, [], ◌∷◌, ℕ, ◌+◌, ◌-◌, ltb, drop}
use Rattle.tables.specs.Reads.{phrase_count_in, depth_in, gain_in}
use Rattle.seeking.specs.Quick.{quick_next}
use Rattle.window.specs.Happened.{Here, happened}
use Rattle.feeding.specs.declared.Progress.{Progress}

-- How far a call has come: the state, the place, the bytes taken, the sum of their gains; and the reports with their room, and the memory.
pub record Run : Type 0 where
  pub state : ℕ
  pub place : ℕ
  pub taken : ℕ
  pub gains : ℕ
  pub here : Here

-- What the code carries along, and what it has written.
abbrev pub run_of : Progress → List ℕ → List ℕ → Run
run_of progress memory room = record {
  state = progress.way.state.0;
  place = progress.way.place.0;
  taken = progress.way.taken;
  gains = progress.way.gains;
  here = record { reports = record { written = progress.written; room = room }; memory = memory };
}

-- Before the first byte of a part.
abbrev pub at_start : ℕ → ℕ → List ℕ → List ℕ → Run
at_start state place memory room = record {
  state = state;
  place = place;
  taken = 0;
  gains = 0;
  here = record { reports = record { written = 0; room = room }; memory = memory };
}

-- One byte: it leads to the next state, and at the next place happens what the state says.
unfoldable pub byte_taken : List ℕ → Run → ℕ → Run
byte_taken t run byte =
    let next : ℕ = quick_next t run.state byte in
    record {
      state = next;
      place = run.place + 1;
      taken = run.taken + 1;
      gains = run.gains + gain_in t next;
      here = happened t next (run.place + 1) run.here;
    }

-- The room that is left after a run, where there was room for so many reports.
abbrev pub free_after : ℕ → Run → ℕ
free_after room run = room - run.here.reports.written

-- Bytes are taken one by one while any remain and the free room is at least the number of phrases.
unfoldable pub part_taken : List ℕ → ℕ → List ℕ → Run → Run
part_taken t room [] run = run
part_taken t room (byte ∷ rest) run =
    let further : Run = part_taken t room rest (byte_taken t run byte) in
    cond (ltb (free_after room run) (phrase_count_in t)) run further

-- What a run comes to with the bytes of a part that it has not taken.
abbrev pub to_come : List ℕ → ℕ → List ℕ → Run → Run
to_come t room part run = part_taken t room (drop run.taken part) run

-- ── Failure steps ──

-- The failure steps of some bytes, from one state to another. A byte adds one to the depth of the state, less its gain, and a failure step takes one
-- away. With tables from elsewhere it may not come out, and the steps are then 0.
unfoldable pub steps_of : List ℕ → ℕ → ℕ → ℕ → ℕ → ℕ
steps_of t first last taken gains = taken + depth_in t first - (gains + depth_in t last)

-- Those of a run, since the state in which it began.
abbrev pub steps_since : List ℕ → ℕ → Run → ℕ
steps_since t first run = steps_of t first run.state run.taken run.gains
