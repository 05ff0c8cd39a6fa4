-- What each record of a book leaves in the table memory and among the keywords. Assumes nothing: these are definitions.
use Rattle.std.specs.Prelude.{Bool, true, false, not, cond, List, ℕ, ◌+◌, ◌-◌, ◌%◌, ltb, length, set, Result, Ok, Err}
use Rattle.records.specs.declared.refusals.Refused.{Refused}
use Rattle.records.specs.declared.records.Record.{Record}
use Rattle.records.specs.declared.records.Record.TheVariants.{Header, Phrase, Bounded, Open, Keyword, End}
use Rattle.records.specs.declared.records.Found.{Found}
use Rattle.records.specs.Records.{read_at}
use Rattle.counters.specs.declared.Number.{Number}
use Rattle.counters.specs.Counters.{rank_of}
use Rattle.tables.specs.Layout.{room_for_pieces, room_for_phrases}
use Rattle.survey.specs.declared.entries.Entry.{Entry}
use Rattle.survey.specs.declared.progress.Progress.{Progress}
use Rattle.survey.specs.declared.stretch.Stretch.{Stretch}
use Rattle.survey.specs.Progress.{moved_to, after_name, after_gap, after_piece}
use Rattle.survey.specs.Stretches.{stretch}
use Rattle.survey.specs.Entries.{ends_for, with_phrase, with_piece}

-- What is lent to the survey: the table memory, and room for the keywords, each a stretch of the book.
pub record Notes : Type 0 where
  pub tables : List ℕ
  pub words : List Stretch

abbrev pub noted : List ℕ → List Stretch → Notes
noted tables words = record { tables = tables; words = words }

-- The survey between two records: how far it has come, and what was written so far.
pub record Reading : Type 0 where
  pub progress : Progress
  pub notes : Notes

abbrev pub reading : Progress → Notes → Reading
reading progress notes = record { progress = progress; notes = notes }

-- A record is a gap.
abbrev pub is_gap : Record → Bool
is_gap (Header edition) = false
is_gap (Phrase number rights) = false
is_gap (Bounded least most) = true
is_gap (Open least) = true
is_gap (Keyword start count) = false
is_gap (End count) = false

-- A gap was found.
abbrev pub found_gap : Result Found Refused → Bool
found_gap (Ok found) = is_gap found.says
found_gap (Err refused) = false

-- A gap begins at an offset: a further piece of the phrase follows.
unfoldable pub gap_at : List ℕ → ℕ → Bool
gap_at bytes at = found_gap (read_at bytes at)

-- A phrase is entered, whose rank is the number of those before it; it is passed over where there is no room for it.
unfoldable pub phrase_turn : Number → ℕ → ℕ → Reading → Reading
phrase_turn number rights next now =
    let notes : Notes = now.notes in
    cond (ltb now.progress.phrases room_for_phrases)
    (reading (after_name (rank_of now.progress.phrases) next now.progress) (noted (with_phrase now.progress.phrases number.0 rights notes.tables) notes.words))
    (reading (moved_to next now.progress) notes)

-- The entry of the piece that a keyword ends: it is the last of its phrase where no gap follows.
unfoldable pub entry_for : List ℕ → Progress → Stretch → ℕ → Entry
entry_for bytes progress word next = record {
  delay = (progress.least + word.count) % 65536;
  span = progress.span;
  rank = progress.rank;
  ends = ends_for (not (gap_at bytes next)) progress.first;
}

-- The piece that a keyword ends is entered and the keyword is noted; it is passed over where there is no room for it.
unfoldable pub keyword_turn : List ℕ → Stretch → ℕ → Reading → Reading
keyword_turn bytes word next now =
    let notes : Notes = now.notes in
    let p : ℕ = now.progress.pieces in
    cond (ltb p room_for_pieces)
    (reading (after_piece next now.progress) (noted (with_piece p (entry_for bytes now.progress word next) notes.tables) (set notes.words p word)))
    (reading (moved_to next now.progress) notes)

-- What each kind of record leaves, with the offset behind it. A bounded gap's window closes by most less least later than it opens;
-- 65,535 says that an open gap's never does.
abbrev pub record_turn : List ℕ → Reading → Record → ℕ → Reading
record_turn bytes now (Header edition) next = reading (moved_to next now.progress) now.notes
record_turn bytes now (Phrase number rights) next = phrase_turn number rights next now
record_turn bytes now (Bounded least most) next = reading (after_gap least (most - least) next now.progress) now.notes
record_turn bytes now (Open least) next = reading (after_gap least 65535 next now.progress) now.notes
record_turn bytes now (Keyword start count) next = keyword_turn bytes (stretch start count) next now
record_turn bytes now (End count) next = reading (moved_to next now.progress) now.notes

-- Where no record is found, the survey goes on at the end of the book.
abbrev pub turn_for : List ℕ → Reading → Result Found Refused → Reading
turn_for bytes now (Ok found) = record_turn bytes now found.says found.next.at
turn_for bytes now (Err refused) = reading (moved_to (length bytes) now.progress) now.notes

-- The record at which the progress stands is read.
unfoldable pub turn_at : List ℕ → Reading → Reading
turn_at bytes now = turn_for bytes now (read_at bytes now.progress.at)
