-- What a desk is answered: document 01's numbers of an answer that meets the call's own promise, and the memories that the promise has.
-- Assumes nothing: these are definitions.
use Rattle.std.specs.Prelude.{◌≡◌, List, ℕ}
use Rattle.builder.specs.Answers as build
use Rattle.builder.specs.Answers.{Built}
use Rattle.builder.specs.Build.{BuiltRight}
use Rattle.scanner.specs.Answers.{Begun, Fed, begun_number, Said, said}
use Rattle.scanner.specs.Promised.{BeginPromise, FeedPromise}
use Rattle.desk.specs.declared.numbers.TsuvrankheBuilt.{TsuvrankheBuilt}
use Rattle.desk.specs.declared.numbers.TsuvrankheFed.{TsuvrankheFed}

-- ── Build ──

-- The number and the offset, in document 01's terms.
unfoldable pub built_said : TsuvrankheBuilt → build.Said
built_said answer = build.said answer.number answer.offset

-- What a desk has after build: the numbers, and the table memory.
pub record BuiltGiven : Type 0 where
  pub says : build.Said
  pub tables : List ℕ

abbrev pub built_given : TsuvrankheBuilt → List ℕ → BuiltGiven
built_given answer tables = record { says = built_said answer; tables = tables }

-- The numbers are those of an answer that build promises, and the memory is the promised one.
pub record BuildAnswers (book before : List ℕ) (given : BuiltGiven) : Type 0 where
  pub answer : Built
  pub promised : BuiltRight book before answer given.tables
  pub numbers : given.says ≡ build.said_by answer

-- ── Begin ──

-- What a desk has after begin: the number, and the running memory.
pub record BegunGiven : Type 0 where
  pub number : ℕ
  pub memory : List ℕ

-- The number is that of an answer that begin promises, and the memory is the promised one.
pub record BeginAnswers (t m : List ℕ) (given : BegunGiven) : Type 0 where
  pub answer : Begun
  pub promised : BeginPromise t m (record { answer = answer; memory = given.memory })
  pub numbers : given.number ≡ begun_number answer

-- ── Feed ──

-- The number, the bytes taken, the reports written and the failure steps, in document 01's terms.
unfoldable pub fed_said : TsuvrankheFed → Said
fed_said answer = record { number = answer.number; taken = answer.taken; reports = answer.reports; steps = answer.steps }

-- What a desk has after feed: the numbers, the running memory and the room.
pub record FedGiven : Type 0 where
  pub says : Said
  pub memory : List ℕ
  pub room : List ℕ

abbrev pub fed_given : TsuvrankheFed → List ℕ → List ℕ → FedGiven
fed_given answer memory room = record { says = fed_said answer; memory = memory; room = room }

-- The numbers are those of an answer that feed promises, and memory and room are the promised ones.
pub record FeedAnswers (t m part room : List ℕ) (given : FedGiven) : Type 0 where
  pub answer : Fed
  pub promised : FeedPromise t m part room (record { answer = answer; memory = given.memory; room = given.room })
  pub numbers : given.says ≡ said answer
