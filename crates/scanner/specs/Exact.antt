-- Begin and feed for all inputs: the answer and every number that was lent, as one function of what was lent.
-- Assumes nothing: these are definitions.
use Rattle.std.specs.Prelude.{◌≡◌, true, false, cond, List, ℕ, ◌-◌, ◌/◌, ltb, length, Ok, Err}
use Rattle.meaning.specs.Calls.{largest_place}
use Rattle.tables.specs.Reads.{Whole, phrase_count_in}
use Rattle.tables.specs.Passing.{tables_pass}
use Rattle.tracking.specs.Head.{begun_with, moved_to}
use Rattle.feeding.specs.Taken.{Run, at_start, part_taken, steps_since}
use Rattle.feeding.specs.Ready.{Ready}
use Rattle.scanner.specs.Passing.{state_held, place_held, too_small, running_pass}
use Rattle.scanner.specs.Answers.{Begun, Fed, took}
use Rattle.scanner.specs.declared.refusals.MemoryError.{MemoryError}
use Rattle.scanner.specs.declared.refusals.MemoryError.TheVariants.{TooSmall, NotPassed}
use Rattle.scanner.specs.declared.refusals.FeedError.{FeedError}
use Rattle.scanner.specs.declared.refusals.FeedError.TheVariants.{Memory, NoRoom, TooLong}

-- What both ask first, and what their first refusals say: memories as long as published, and tables that pass.
unfoldable pub MemoriesChecked : List ℕ → List ℕ → Begun → Type 0
MemoriesChecked t m (Ok done) = (too_small t m ≡ false) × (tables_pass t ≡ true)
MemoriesChecked t m (Err TooSmall) = too_small t m ≡ true
MemoriesChecked t m (Err NotPassed) = (too_small t m ≡ false) × (tables_pass t ≡ false)

-- ── Begin ──

-- The answer, and the running memory after the call.
pub record BeginEnd : Type 0 where
  pub answer : Begun
  pub memory : List ℕ

-- Begin has done its work, and left this memory.
abbrev pub begun_well : List ℕ → BeginEnd
begun_well memory = record { answer = Ok tt; memory = memory }

-- Begin has refused, and left this memory.
abbrev pub begin_refused : MemoryError → List ℕ → BeginEnd
begin_refused why memory = record { answer = Err why; memory = memory }

-- Refused with 1, then with 12, with nothing changed; else the memory is begun with the tables.
unfoldable pub begin_of : List ℕ → List ℕ → BeginEnd
begin_of t m =
    cond (too_small t m) (begin_refused TooSmall m)
    (cond (tables_pass t) (begun_well (begun_with t m)) (begin_refused NotPassed m))

-- ── Feed ──

-- The answer, and the running memory and the room after the call.
pub record FeedEnd : Type 0 where
  pub answer : Fed
  pub memory : List ℕ
  pub room : List ℕ

-- Feed has refused, and left this memory and this room.
abbrev pub feed_refused : FeedError → List ℕ → List ℕ → FeedEnd
feed_refused why memory room = record { answer = Err why; memory = memory; room = room }

-- What is answered once bytes have been taken, with so many failure steps.
abbrev pub answer_after : ℕ → Run → Fed
answer_after steps run = Ok (took run.taken run.here.reports.written steps)

-- The running memory once bytes have been taken from a state and a place on: the state and the place that were reached are written into it.
abbrev pub memory_after : Run → ℕ → ℕ → List ℕ
memory_after run state place = moved_to run.here.memory run.state run.place

-- Bytes are taken from a state and a place on; state and place are written when no more are taken.
unfoldable pub took_from : List ℕ → List ℕ → List ℕ → List ℕ → ℕ → ℕ → FeedEnd
took_from t m part room state place =
    let run : Run = part_taken t (length room / 2) part (at_start state place m room) in
    record { answer = answer_after (steps_since t state run) run; memory = memory_after run state place; room = run.here.reports.room }

-- Refused with 1, 12, 10, 11, in this order, with nothing changed; else bytes are taken from the state and the place in the memory.
unfoldable pub feed_of : List ℕ → List ℕ → List ℕ → List ℕ → FeedEnd
feed_of t m part room =
    let none : FeedEnd = feed_refused (Memory NotPassed) m room in
    let took : FeedEnd = took_from t m part room (state_held m) (place_held m) in
    cond (too_small t m) (feed_refused (Memory TooSmall) m room)
    (cond (tables_pass t)
    (cond (running_pass t m)
    (cond (ltb (length room / 2) (phrase_count_in t)) (feed_refused NoRoom m room)
    (cond (ltb (largest_place - place_held m) (length part)) (feed_refused TooLong m room) took))
    none) none)

-- A call that takes bytes, from the state and the place in the memory: all holds that the taking of bytes wants.
pub record Taking (t m part room : List ℕ) (end : FeedEnd) : Type 0 where
  pub is : end ≡ took_from t m part room (state_held m) (place_held m)
  pub tables : Whole t
  pub ready : Ready t m (length part) (state_held m) (place_held m)
