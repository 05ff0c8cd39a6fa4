-- What begin and feed promise: exactly, for all inputs, and by document 01's meaning. Assumes nothing: these are definitions.
use Rattle.std.specs.Prelude.{◌≡◌, ◌⊎◌, false, List, ℕ, ◌/◌, ◌≤◌, ◌<◌, length}
use Rattle.lent.specs.Numbers.{Bytes}
use Rattle.meaning.specs.Books.{Book}
use Rattle.tables.specs.Layout.{tables_size}
use Rattle.tables.specs.Passing.{tables_pass}
use Rattle.running.specs.Layout.{running_size}
use Rattle.feeding.specs.Taken.{Run, at_start}
use Rattle.feeding.specs.Rule.{TookBytes}
use Rattle.scanner.specs.Answers.{begun_number, said}
use Rattle.scanner.specs.Passing.{state_held, place_held, running_pass}
use Rattle.scanner.specs.Exact.{BeginEnd, begin_of, FeedEnd, feed_of}
use Rattle.scanner.specs.Meant.{TablesOf, RunningOf, BeginDone, FeedRefused, FeedRight}

-- A memory is below its published size.
abbrev pub Small : List ℕ → List ℕ → Type 0
Small t m = (length t < tables_size) ⊎ (length m < running_size)

-- ── Begin ──

-- A refused begin changes nothing.
pub record BeginRefused (number : ℕ) (m : List ℕ) (end : BeginEnd) : Type 0 where
  pub says : begun_number end.answer ≡ number
  pub memory_kept : end.memory ≡ m

pub record BeginPromise (t m : List ℕ) (end : BeginEnd) : Type 0 where
  pub exact : end ≡ begin_of t m
  pub small : Small t m → BeginRefused 1 m end
  pub not_tables : tables_size ≤ length t → running_size ≤ length m → tables_pass t ≡ false → BeginRefused 12 m end
  pub means : (book : Book) → TablesOf book t → running_size ≤ length m → Bytes m → BeginDone book m end

-- ── Feed ──

-- The taking rule, for every call that is not refused, whatever the tables and the running memory are: the bytes that the call says it took are
-- those of the rule, which counts the free room by the reports that the call says it wrote.
pub record FollowsRule (t m part room : List ℕ) (end : FeedEnd) : Type 0 where
  pub run : Run
  pub takes : TookBytes t (length room / 2) part (at_start (state_held m) (place_held m) m room) run (said end.answer).taken
  pub reports : run.here.reports.written ≡ (said end.answer).reports

pub record FeedPromise (t m part room : List ℕ) (end : FeedEnd) : Type 0 where
  pub exact : end ≡ feed_of t m part room
  pub small : Small t m → FeedRefused 1 m room end
  pub not_tables : tables_size ≤ length t → running_size ≤ length m → (tables_pass t ≡ false) ⊎ (running_pass t m ≡ false) → FeedRefused 12 m room end
  pub rule : (said end.answer).number ≡ 0 → FollowsRule t m part room end
  pub means : (book : Book) (x : List ℕ) → TablesOf book t → RunningOf book x m → FeedRight book x m part room end
