-- What the calls mean on memory that build and begin left: that of a book, after some bytes of a letter. Assumes nothing: these are definitions.
use Rattle.std.specs.Prelude.{◌≡◌, List, [], ◌++◌, ℕ, ◌+◌, ◌/◌, ◌≤◌, ◌<◌, length, take, get_or}
use Rattle.lent.specs.Numbers.{Bytes, with_bytes}
use Rattle.meaning.specs.Books.{Book}
use Rattle.meaning.specs.Calls.{largest_place, fed}
use Rattle.format.specs.Limits.{Within}
use Rattle.tables.specs.Regions.{Laid}
use Rattle.tables.specs.Layout.{tables_size, tables_layout}
use Rattle.running.specs.Layout.{running_size, running_layout}
use Rattle.tracking.specs.Reports.{in_room}
use Rattle.scanner.specs.Answers.{begun_number, refusal, said}
use Rattle.scanner.specs.Exact.{BeginEnd, FeedEnd}

-- The lent table memory holds the tables of a book within the limits, as build leaves them.
pub record TablesOf (book : Book) (t : List ℕ) : Type 0 where
  pub limits : Within book
  pub long : tables_size ≤ length t
  pub laid : Laid (tables_layout book) t
  pub bytes : Bytes t

-- The lent running memory is the book's after the bytes x, which are no more than there are places.
pub record RunningOf (book : Book) (x m : List ℕ) : Type 0 where
  pub early : length x ≤ largest_place
  pub long : running_size ≤ length m
  pub laid : Laid (running_layout book x) m
  pub bytes : Bytes m

-- Bytes past the published size are never touched.
abbrev pub PastKept : List ℕ → List ℕ → Type 0
PastKept m after = (length after ≡ length m) × ((i : ℕ) → running_size ≤ i → get_or after i 0 ≡ get_or m i 0)

-- ── Begin ──

-- The memory is the book's before the first byte, whatever it held.
pub record BeginDone (book : Book) (m : List ℕ) (end : BeginEnd) : Type 0 where
  pub number : begun_number end.answer ≡ 0
  pub memory : RunningOf book [] end.memory
  pub past : PastKept m end.memory

-- ── Feed ──

-- A refused feed says 0 bytes taken, 0 reports, 0 steps, and changes nothing.
pub record FeedRefused (number : ℕ) (m room : List ℕ) (end : FeedEnd) : Type 0 where
  pub says : said end.answer ≡ refusal number
  pub memory_kept : end.memory ≡ m
  pub room_kept : end.room ≡ room

-- What a feed that is not refused does, after the bytes x of a letter: it takes what the rule says and counts the steps; the reports that end in
-- the bytes taken stand in the room, which is otherwise as it was; and the memory is the book's after x and the bytes taken.
pub record FeedDone (book : Book) (x m part room : List ℕ) (end : FeedEnd) : Type 0 where
  pub says : said end.answer ≡ record {
    number = 0;
    taken = (fed book x part (length room / 2)).taken;
    reports = length (fed book x part (length room / 2)).hits;
    steps = (fed book x part (length room / 2)).steps;
  }
  pub written : end.room ≡ with_bytes room 0 (in_room (fed book x part (length room / 2)).hits)
  pub memory : RunningOf book (x ++ take (fed book x part (length room / 2)).taken part) end.memory
  pub past : PastKept m end.memory

-- Refused with 10 where the room is below the number of phrases, even for an empty part; then with 11 where the bytes already taken and
-- the whole part offered exceed the largest place; else done.
pub record FeedRight (book : Book) (x m part room : List ℕ) (end : FeedEnd) : Type 0 where
  pub no_room : length room / 2 < length book.phrases → FeedRefused 10 m room end
  pub too_long : length book.phrases ≤ length room / 2 → largest_place < length x + length part → FeedRefused 11 m room end
  pub done : length book.phrases ≤ length room / 2 → length x + length part ≤ largest_place → FeedDone book x m part room end
