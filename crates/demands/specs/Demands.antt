-- What a desk may count on, in document 01's terms. Assumes nothing: these are definitions.
use Rattle.std.specs.Prelude.{◌≡◌, List, [], ◌∷◌, ◌++◌, ℕ, ◌≤◌, length, take}
use Rattle.meaning.specs.Books.{Book}
use Rattle.meaning.specs.Reports.{reports}
use Rattle.meaning.specs.Automaton.{steps}
use Rattle.running.specs.Layout.{running_size}
use Rattle.tracking.specs.Reports.{in_room}
use Rattle.builder.specs.Answers.{Built}
use Rattle.builder.specs.Answers as build
use Rattle.scanner.specs.Answers.{begun_number, refusal, said}
use Rattle.scanner.specs.Exact.{BeginEnd, FeedEnd}
use Rattle.scanner.specs.Meant.{FeedRight}
use Rattle.scanner.specs.Promised.{BeginPromise, FeedPromise}
use Rattle.demands.specs.Desk.{Feed, bytes_taken, reports_joined, steps_added}

-- ── After a refused build ──

-- What a refused build leaves is answered with 12: begin and feed, lent these tables and running memory of its published size, say 12 and change
-- nothing, and feed says 0 bytes taken, 0 reports, 0 steps. So with any running memory, any part and any room.
pub record AnsweredWith12 (tables : List ℕ) : Type 0 where
  pub begin : (running : List ℕ) (end : BeginEnd) → running_size ≤ length running → BeginPromise tables running end
      → (begun_number end.answer ≡ 12) × (end.memory ≡ running)
  pub feed : (running part room : List ℕ) (end : FeedEnd) → running_size ≤ length running → FeedPromise tables running part room end
      → (said end.answer ≡ refusal 12) × (end.memory ≡ running) × (end.room ≡ room)

-- ── From an accepted book on ──

-- Each call, after the bytes x that were taken before it, is refused with 10 or with 11 where document 01 says so, and else takes bytes by the
-- taking rule.
unfoldable pub EachRight : Book → List ℕ → List ℕ → List Feed → Type 0
EachRight book x running [] = Unit {0}
EachRight book x running (feed ∷ rest) =
    FeedRight book x running feed.lent.part feed.lent.room feed.end
    × EachRight book (x ++ take (said feed.end.answer).taken feed.lent.part) feed.end.memory rest

-- Build says 0 and the book's length, begin says 0, and each feed is right. Cut the letter anywhere, stop calls early for want of room: the reports
-- joined are exactly those of the bytes taken, in their order, and the failure steps add up to what the automaton's definition gives, never more
-- than the bytes.
pub record LetterAnswered (book : Book) (bytes : List ℕ) (built : Built) (begun : BeginEnd) (feeds : List Feed) : Type 0 where
  pub built_done : build.said_by built ≡ build.said 0 (length bytes)
  pub begun_done : begun_number begun.answer ≡ 0
  pub each_right : EachRight book [] begun.memory feeds
  pub all_reports : reports_joined feeds ≡ in_room (reports book (bytes_taken feeds))
  pub all_steps : steps_added feeds ≡ steps book (bytes_taken feeds)
  pub steps_at_most : steps_added feeds ≤ length (bytes_taken feeds)
