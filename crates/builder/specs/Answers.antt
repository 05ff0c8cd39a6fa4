-- What build's answer says, in document 01's terms. Assumes nothing: these are definitions.
use Rattle.std.specs.Prelude.{ℕ, Result, Ok, Err}
use Rattle.format.specs.Refusals.{refusal_number}
use Rattle.format.specs.Judged.{Judgement, accepted, refused}
use Rattle.records.specs.Refusals.{reason_of}
use Rattle.builder.specs.declared.answers.BuildError.{BuildError}
use Rattle.builder.specs.declared.answers.BuildError.TheVariants.{TooSmall, Refused}

-- What build answers: the length of the book that is built, or why it is refused.
abbrev pub Built : Type 0
Built = Result ℕ BuildError

-- Document 01's answer: a number and an offset.
pub record Said : Type 0 where
  pub number : ℕ
  pub offset : ℕ

abbrev pub said : ℕ → ℕ → Said
said number offset = record { number = number; offset = offset }

-- The number and the offset of each case: 0 and the book's length where it is done, 1 and 0 where the memory is too small, and
-- else the number of the refusal and the offset of the record.
unfoldable pub said_by : Built → Said
unfolding refusal_number reason_of
said_by (Ok length) = said 0 length
said_by (Err TooSmall) = said 1 0
said_by (Err (Refused told)) = said (refusal_number (reason_of told.why)) told.at

-- Those of a judgement.
unfoldable pub said_of : Judgement → Said
unfolding refusal_number
said_of (accepted book offset) = said 0 offset
said_of (refused why offset) = said (refusal_number why) offset
