-- One turn of judge, as the code takes it: each record's tests in order, and what is counted of the book behind it.
-- Assumes nothing: these are definitions.
use Rattle.std.specs.Prelude.{Bool, true, false, not, cond, ◌&&◌, ◌||◌, List, ℕ, ◌+◌, ◌-◌, ◌≤◌, leb, ltb, eqb, get_or, Result, Ok, Err}
use Rattle.meaning.specs.Matching.{bytes_after}
use Rattle.counters.specs.declared.Number.{Number}
use Rattle.format.specs.Prefixes.{most_shared}
use Rattle.format.specs.Limits.{the_edition, most_number, most_rights, most_least, most_most, most_phrases, most_pieces_of_phrase, most_pieces, most_prefixes}
use Rattle.format.specs.Written.{header_kind, phrase_kind, end_kind}
use Rattle.format.specs.Faults.{is_gap, is_keyword, between}
use Rattle.records.specs.declared.refusals.Refusal.{Refusal}
use Rattle.records.specs.declared.refusals.Refusal.TheVariants.{Cut, Kind, Field, Crossed, Order, Many, Total, Full}
use Rattle.records.specs.declared.refusals.Refused.{Refused}
use Rattle.records.specs.declared.records.Record.{Record}
use Rattle.records.specs.declared.records.Record.TheVariants as says
use Rattle.records.specs.declared.records.Found.{Found}
use Rattle.records.specs.Prefixes.{keywords_before}
use Rattle.book.specs.declared.answers.Accepted.{Accepted}
use Rattle.book.specs.declared.progress.Stage.{Stage}
use Rattle.book.specs.declared.progress.Stage.TheVariants.{Start, Headed, Named, Gapped, Worded, Ended}
use Rattle.book.specs.declared.progress.Tally.{Tally}
use Rattle.book.specs.declared.progress.Reached.{Reached}

-- What is counted is within the limits.
pub record Small (tally : Tally) : Type 0 where
  pub phrases : tally.phrases ≤ most_phrases
  pub own : tally.own ≤ most_pieces_of_phrase
  pub pieces : tally.pieces ≤ most_pieces
  pub prefixes : tally.prefixes ≤ most_prefixes

-- Which kinds may stand after what was read last.
unfoldable pub allowed_of : Stage → ℕ → Bool
allowed_of Start k = eqb k header_kind
allowed_of Headed k = eqb k phrase_kind
allowed_of Named k = is_gap k
allowed_of Gapped k = is_keyword k
allowed_of Worded k = eqb k phrase_kind || (eqb k end_kind || is_gap k)
allowed_of Ended k = false

-- The book may stop where the end record has been read, and nowhere else.
abbrev pub may_stop_at : Stage → Bool
may_stop_at Start = false
may_stop_at Headed = false
may_stop_at Named = false
may_stop_at Gapped = false
may_stop_at Worded = false
may_stop_at Ended = true

-- ── Each record ──

-- What comes of a record: it stands, and leads to a stage and a tally, or it is refused.
abbrev pub Turn : Type 0
Turn = Result Reached Refusal

abbrev pub to : Stage → Tally → Turn
to stage tally = Ok (record { stage = stage; tally = tally })

-- Each definition takes the tally of what was read before, and the record's fields.

-- The edition must be 1.
unfoldable pub header_turn : Tally → ℕ → Turn
header_turn tally edition = cond (not (eqb edition the_edition)) (Err Field) (to Headed tally)

-- Phrase number 1 to 65,535, rights code 1 to 12; the number above the one before; at most 128 phrases.
unfoldable pub phrase_turn : Tally → Number → ℕ → Turn
phrase_turn tally number rights =
    cond (not (between 1 most_number number.0 && between 1 most_rights rights)) (Err Field)
    (cond (leb number.0 tally.last.0) (Err Order)
    (cond (leb most_phrases tally.phrases) (Err Many)
    (to Named (record { phrases = tally.phrases + 1; last = number; own = 0; pieces = tally.pieces; prefixes = tally.prefixes }))))

-- At most 8 pieces in a phrase and 256 in a book; a gap is the first record of its piece.
unfoldable pub gap_turn : Tally → Turn
gap_turn tally = cond (leb most_pieces_of_phrase tally.own || leb most_pieces tally.pieces) (Err Many) (to Gapped tally)

-- Least 0 to 224, most 0 to 60,000, and least not above most.
unfoldable pub bounded_turn : Tally → ℕ → ℕ → Turn
bounded_turn tally least most =
    cond (ltb most_least least) (Err Field) (cond (ltb most_most most) (Err Field) (cond (ltb most least) (Err Crossed) (gap_turn tally)))

-- An open gap has no most.
unfoldable pub open_turn : Tally → ℕ → Turn
open_turn tally least = cond (ltb most_least least) (Err Field) (gap_turn tally)

-- How many different prefixes there are with the keyword of so many bytes from an offset on, whose record is at an offset: those
-- before, and its length less what it shares with an earlier keyword.
unfoldable pub prefixes_with : List ℕ → Tally → ℕ → ℕ → ℕ → ℕ
prefixes_with bytes tally start count at = tally.prefixes + (count - most_shared (keywords_before bytes at) (bytes_after start count bytes))

-- At most 2,047 different nonempty prefixes of keywords. With its keyword a piece is whole, and is counted.
unfoldable pub keyword_turn : List ℕ → Tally → ℕ → ℕ → ℕ → Turn
keyword_turn bytes tally start count at =
    cond (ltb most_prefixes (prefixes_with bytes tally start count at)) (Err Full)
    (to Worded (record {
      phrases = tally.phrases;
      last = tally.last;
      own = tally.own + 1;
      pieces = tally.pieces + 1;
      prefixes = prefixes_with bytes tally start count at;
    }))

-- The end record's number is the number of phrases.
unfoldable pub end_turn : Tally → ℕ → Turn
end_turn tally count =
    cond (not (eqb count tally.phrases)) (Err Total)
    (to Ended (record { phrases = tally.phrases; last = tally.last; own = 0; pieces = tally.pieces; prefixes = tally.prefixes }))

-- ── Any record ──

-- A record is judged by what it is.
unfoldable pub record_turn : List ℕ → ℕ → Tally → Record → Turn
unfolding header_turn phrase_turn bounded_turn open_turn keyword_turn end_turn
record_turn bytes at tally (says.Header edition) = header_turn tally edition
record_turn bytes at tally (says.Phrase number rights) = phrase_turn tally number rights
record_turn bytes at tally (says.Bounded least most) = bounded_turn tally least most
record_turn bytes at tally (says.Open least) = open_turn tally least
record_turn bytes at tally (says.Keyword start count) = keyword_turn bytes tally start count at
record_turn bytes at tally (says.End count) = end_turn tally count

-- What was found at an offset: a record is judged, and what is no record is refused.
unfoldable pub found_turn : List ℕ → ℕ → Tally → Result Found Refused → Turn
unfolding record_turn
found_turn bytes at tally (Ok found) = record_turn bytes at tally found.says
found_turn bytes at tally (Err refused) = Err refused.why

-- The kind is looked at before anything else.
unfoldable pub turn_at : List ℕ → ℕ → Stage → Tally → Result Found Refused → Turn
unfolding allowed_of found_turn
turn_at bytes at stage tally found = cond (not (allowed_of stage (get_or bytes at 0))) (Err Kind) (found_turn bytes at tally found)

-- The answer where the book stops at an offset.
unfoldable pub stop_answer : Stage → Tally → ℕ → Result Accepted Refused
stop_answer stage tally at = cond (may_stop_at stage) (Ok (record { length = at; phrases = tally.phrases })) (Err (record { why = Cut; at = at }))
