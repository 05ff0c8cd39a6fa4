-- What a desk does with the public calls: it builds, begins and feeds. Of each call that alone is known which the function's `ensures` says.
-- Assumes nothing: these are definitions.
use Rattle.std.specs.Prelude.{List, [], ◌∷◌, ◌++◌, ℕ, ◌+◌, ◌*◌, ◌≤◌, length, take}
use Rattle.lent.specs.Numbers.{Bytes}
use Rattle.tables.specs.Layout.{tables_size}
use Rattle.running.specs.Layout.{running_size}
use Rattle.builder.specs.Answers.{Built}
use Rattle.builder.specs.Build.{BuiltRight}
use Rattle.scanner.specs.Answers.{said}
use Rattle.scanner.specs.Exact.{BeginEnd, FeedEnd}
use Rattle.scanner.specs.Promised.{BeginPromise, FeedPromise}
use Rattle.scanner.specs.Letters.{Call}

-- ── Feeds ──

-- A call of feed: the part and the room that it was lent, and its answer with the running memory and the room that it left.
pub record Feed : Type 0 where
  pub lent : Call
  pub end : FeedEnd

-- Calls of feed one after the other, with the same tables, each lent the running memory that the one before it left.
unfoldable pub Feeds : List ℕ → List ℕ → List Feed → Type 0
Feeds tables running [] = Unit {0}
Feeds tables running (feed ∷ rest) = FeedPromise tables running feed.lent.part feed.lent.room feed.end × Feeds tables feed.end.memory rest

-- The bytes that they say they took, in order.
unfoldable pub bytes_taken : List Feed → List ℕ
bytes_taken [] = []
bytes_taken (feed ∷ rest) = take (said feed.end.answer).taken feed.lent.part ++ bytes_taken rest

-- The reports that they say they wrote, joined: two numbers each.
unfoldable pub reports_joined : List Feed → List ℕ
reports_joined [] = []
reports_joined (feed ∷ rest) = take (2 * (said feed.end.answer).reports) feed.end.room ++ reports_joined rest

-- The failure steps that they say they made, added up.
unfoldable pub steps_added : List Feed → ℕ
steps_added [] = 0
steps_added (feed ∷ rest) = (said feed.end.answer).steps + steps_added rest

-- ── Build, begin, and then feeds ──

-- The bytes of a book were built, running memory was begun with the tables, and a letter was fed, in any parts and with any rooms.
pub record Desk (bytes : List ℕ) (built : Built) (begun : BeginEnd) (feeds : List Feed) : Type 0 where
  -- table memory before build and after it, and running memory before begin, whatever they held
  pub before : List ℕ
  pub tables : List ℕ
  pub running : List ℕ
  -- what the three functions promise
  pub build : BuiltRight bytes before built tables
  pub begin : BeginPromise tables running begun
  pub feed : Feeds tables begun.memory feeds
  -- both memories are of their published sizes, and memory holds bytes
  pub tables_large : tables_size ≤ length before
  pub running_large : running_size ≤ length running
  pub tables_bytes : Bytes tables
  pub running_bytes : Bytes running
