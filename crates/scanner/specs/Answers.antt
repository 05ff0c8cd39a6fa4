-- What each answer says, by the numbers of document 01. Assumes nothing: these are definitions.
use Rattle.std.specs.Prelude.{ℕ, Result, Ok, Err}
use Rattle.scanner.specs.declared.refusals.MemoryError.{MemoryError}
use Rattle.scanner.specs.declared.refusals.MemoryError.TheVariants.{TooSmall, NotPassed}
use Rattle.scanner.specs.declared.refusals.FeedError.{FeedError}
use Rattle.scanner.specs.declared.refusals.FeedError.TheVariants.{Memory, NoRoom, TooLong}
use Rattle.scanner.specs.declared.Took.{Took}

-- What begin answers, and what feed answers.
abbrev pub Begun : Type 0
Begun = Result (Unit {0}) MemoryError

abbrev pub Fed : Type 0
Fed = Result Took FeedError

abbrev pub took : ℕ → ℕ → ℕ → Took
took taken reports steps = record { taken = taken; reports = reports; steps = steps }

-- The numbers of the refusals.
unfoldable pub memory_number : MemoryError → ℕ
memory_number TooSmall = 1
memory_number NotPassed = 12

unfoldable pub feed_number : FeedError → ℕ
unfolding memory_number
feed_number (Memory why) = memory_number why
feed_number NoRoom = 10
feed_number TooLong = 11

-- The number that begin gives.
unfoldable pub begun_number : Begun → ℕ
unfolding memory_number
begun_number (Ok done) = 0
begun_number (Err why) = memory_number why

-- What feed gives: the number, the bytes taken, the reports written, the failure steps.
pub record Said : Type 0 where
  pub number : ℕ
  pub taken : ℕ
  pub reports : ℕ
  pub steps : ℕ

-- A refusal: 0 bytes taken, 0 reports, 0 steps.
abbrev pub refusal : ℕ → Said
refusal number = record { number = number; taken = 0; reports = 0; steps = 0 }

unfoldable pub said : Fed → Said
unfolding feed_number
said (Ok came) = record { number = 0; taken = came.taken; reports = came.reports; steps = came.steps }
said (Err why) = refusal (feed_number why)
