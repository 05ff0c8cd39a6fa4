-- The whole survey, record after record. Assumes nothing: these are definitions.
use Rattle.std.specs.Prelude.{◌≡◌, cond, List, ℕ, zero, suc, ltb, length}
use Rattle.survey.specs.declared.Surveyed.{Surveyed}
use Rattle.survey.specs.Progress.{at_start}
use Rattle.survey.specs.Turns.{Notes, Reading, reading, turn_at}

-- Record after record is read, up to the end of the book; at most n of them.
unfoldable pub read_on : ℕ → List ℕ → Reading → Reading
read_on zero bytes now = now
read_on (suc n) bytes now =
    let later : Reading = read_on n bytes (turn_at bytes now) in
    cond (ltb now.progress.at (length bytes)) later now

-- A record has at least one byte, so there are no more records than bytes.
unfoldable pub surveyed : List ℕ → Notes → Reading
surveyed bytes before = read_on (length bytes) bytes (reading at_start before)

-- How many phrases and pieces were entered.
abbrev pub counts_of : Reading → Surveyed
counts_of end = record { phrases = end.progress.phrases; pieces = end.progress.pieces }

-- The answer, and everything that was lent, as the survey leaves it.
pub record SurveyExact (bytes : List ℕ) (before : Notes) (answer : Surveyed) (after : Notes) : Type 0 where
  pub counts : answer ≡ counts_of (surveyed bytes before)
  pub notes : after ≡ (surveyed bytes before).notes
