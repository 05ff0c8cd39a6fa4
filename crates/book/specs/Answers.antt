-- What judge's answer says, in document 01's terms. Assumes nothing: these are definitions.
use Rattle.std.specs.Prelude.{◌≡◌, List, ℕ, Result, Ok, Err}
use Rattle.format.specs.Refusals.{refusal_number}
use Rattle.format.specs.Judged.{Judgement, Answer, answer_of, judged, Judges}
use Rattle.records.specs.Refusals.{reason_of}
use Rattle.records.specs.declared.refusals.Refused.{Refused}
use Rattle.book.specs.declared.answers.Accepted.{Accepted}

-- Document 01's number, offset and phrases of each case: 0 and the book's length for a book that is accepted, and else the
-- number of the refusal and the offset of the record, with no phrases.
unfoldable pub said_by : Result Accepted Refused → Answer
unfolding refusal_number reason_of
said_by (Ok accepted) = record { number = 0; offset = accepted.length; phrases = accepted.phrases }
said_by (Err refused) = record { number = refusal_number (reason_of refused.why); offset = refused.at; phrases = 0 }

-- The answer is that of a judgement which is true of the bytes.
pub record Meant (bytes : List ℕ) (answer : Result Accepted Refused) : Type 0 where
  pub judgement : Judgement
  pub true_of : Judges bytes judgement
  pub said : said_by answer ≡ answer_of judgement

-- What judge answers for any bytes, and what that means.
pub record JudgedRight (bytes : List ℕ) (answer : Result Accepted Refused) : Type 0 where
  pub exact : said_by answer ≡ answer_of (judged bytes)
  pub meant : Meant bytes answer
