-- What build answers and leaves, for all that it can be lent: as the code does it, and in document 01's terms.
-- Assumes nothing: these are definitions.
use Rattle.std.specs.Prelude.{◌≡◌, cond, List, ℕ, ◌≤◌, ◌<◌, ltb, length, get_or, Ok, Err}
use Rattle.lent.specs.Zeros.{Zero, with_zeros}
use Rattle.format.specs.Judged.{Judgement, accepted, refused, judged, Judges}
use Rattle.records.specs.Refusals.{refusal_for}
use Rattle.tables.specs.Regions.{Laid}
use Rattle.tables.specs.Layout.{tables_size, tables_layout}
use Rattle.builder.specs.declared.answers.BuildError.TheVariants.{TooSmall, Refused}
use Rattle.builder.specs.Answers.{Built, said, said_by, said_of}
use Rattle.builder.specs.Passes.{tables_from}

-- ── As the code does it ──

-- An answer, and the memory that was lent.
pub record Outcome : Type 0 where
  pub answer : Built
  pub tables : List ℕ

abbrev pub outcome : Built → List ℕ → Outcome
outcome answer tables = record { answer = answer; tables = tables }

-- The lent memory, cleared up to the published size.
unfoldable pub blank_of : List ℕ → List ℕ
blank_of tables = with_zeros tables 0 tables_size

-- What a judgement of the book leads to, in cleared memory.
unfoldable pub outcome_of : List ℕ → List ℕ → Judgement → Outcome
outcome_of bytes blank (accepted book offset) = outcome (Ok offset) (tables_from bytes blank)
outcome_of bytes blank (refused why offset) = outcome (Err (Refused (record { why = refusal_for why; at = offset }))) blank

-- Too small memory is left as it is; any other is cleared, and then the book is judged.
unfoldable pub build_of : List ℕ → List ℕ → Outcome
build_of bytes tables = cond (ltb (length tables) tables_size) (outcome (Err TooSmall) tables) (outcome_of bytes (blank_of tables) (judged bytes))

-- ── What it means ──

-- What the memory holds up to the published size: the tables of the book that was accepted, and else zero.
unfoldable pub Holds : Judgement → List ℕ → Type 0
Holds (accepted book offset) after = Laid (tables_layout book) after
Holds (refused why offset) after = Zero 0 tables_size after

-- Memory below the published size is refused with 1, at 0, and not touched.
pub record Untouched (before : List ℕ) (answer : Built) (after : List ℕ) : Type 0 where
  pub says : said_by answer ≡ said 1 0
  pub same : after ≡ before

-- In memory of the published size the answer is that of a judgement which is true of the book, the memory holds what it leads
-- to, and from the published size on every byte is as it was.
pub record Judged (bytes before : List ℕ) (answer : Built) (after : List ℕ) : Type 0 where
  pub judgement : Judgement
  pub true_of : Judges bytes judgement
  pub says : said_by answer ≡ said_of judgement
  pub holds : Holds judgement after
  pub past : (k : ℕ) → tables_size ≤ k → get_or after k 0 ≡ get_or before k 0
  pub long : length after ≡ length before

pub record BuildMeant (bytes before : List ℕ) (answer : Built) (after : List ℕ) : Type 0 where
  pub small : length before < tables_size → Untouched before answer after
  pub large : tables_size ≤ length before → Judged bytes before answer after

-- What build answers and leaves for any bytes and any memory, and what that means.
pub record BuiltRight (bytes before : List ℕ) (answer : Built) (after : List ℕ) : Type 0 where
  pub exact : outcome answer after ≡ build_of bytes before
  pub meant : BuildMeant bytes before answer after
