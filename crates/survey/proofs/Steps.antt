-- Each record of a book that was written leaves what it says: one more phrase, the gap of a piece, one more piece. Assumes nothing.
use mathlib.Core.Path.{◌≡◌, refl, sym, ap, ◌∙◌}
use mathlib.Core.Bool.{Bool, true, false, not}
use mathlib.Core.List.{List, [], ◌∷◌, ◌++◌}
use Prim.Native.Nat.{ℕ, ◌+◌, ◌<◌}
use native.Mathlib.Omega.{arith}
use lib.ListN.{length, drop, set}
use borrow.Author.Tests.{lt-ltb}
use Rattle.meaning.specs.Books.{Gap, bounded, open_from, Phrase}
use Rattle.meaning.specs.Windows.{least_of, delay}
use Rattle.format.specs.Limits.{GapWithin, PieceWithin}
use Rattle.format.specs.Written.{written_header, written_name, written_gap, written_keyword, written_end}
use Rattle.format.proofs.Lists.{length_further}
use Rattle.records.specs.declared.records.Record.{Record}
use Rattle.records.specs.declared.records.Record.TheVariants as says
use Rattle.counters.specs.Counters.{number_of, rank_of}
use Rattle.tables.specs.Spots.{Spot, none_left}
use Rattle.tables.specs.Layout.{room_for_pieces, room_for_phrases, gap_span, spot_ends}
use Rattle.tables.specs.Reads.{Whole}
use Rattle.tables.proofs.Spots.{delay_within}
use Rattle.survey.specs.declared.progress.Progress.{Progress}
use Rattle.survey.specs.declared.stretch.Stretch.{Stretch}
use Rattle.survey.specs.Stretches.{stretch}
use Rattle.survey.specs.Progress.{moved_to, after_name, after_gap, after_piece}
use Rattle.survey.specs.Entries.{with_phrase, with_piece}
use Rattle.survey.specs.Turns.{Notes, noted, Reading, reading, gap_at, phrase_turn, entry_for, keyword_turn, record_turn, turn_for, turn_at}
use Rattle.survey.proofs.Loop.{Going, going_more}
use Rattle.survey.proofs.Records.{Reads, header_reads, name_reads, gap_said, gap_reads, end_reads, keyword_reads, keyword_located}
use Rattle.survey.proofs.Held.{Held, Says, held_phrase, held_piece}
use Rattle.survey.proofs.Noting.{Noting, noting_more}

-- ── How far the survey has come ──

-- Nothing is said of the progress.
abbrev pub Anywhere : Progress → Type 0
Anywhere progress = Unit {0}

-- In the phrase of a rank, before its first piece or not.
pub record InPhrase (rank : ℕ) (first : Bool) (progress : Progress) : Type 0 where
  pub ranked : progress.rank.0 ≡ rank
  pub begins : progress.first ≡ first

-- The same, and the gap of the next piece was read.
pub record AfterGap (rank : ℕ) (first : Bool) (gap : Gap) (progress : Progress) : Type 0 where
  pub ranked : progress.rank.0 ≡ rank
  pub begins : progress.first ≡ first
  pub opens : progress.least ≡ least_of gap
  pub closes : progress.span ≡ gap_span gap

-- ── The entry of a piece ──

span_short : (gap : Gap) → GapWithin gap → gap_span gap < 65536
unfolding GapWithin gap_span
span_short (bounded least most) within = omega (arith, within.1)
span_short (open_from least) within = omega arith

-- With the gap that was read last, the keyword's length and what follows, the entry is that of the spot.
entry_says : (bytes : List ℕ) (progress : Progress) (word : Stretch) (next : ℕ) (spot : Spot) → PieceWithin spot.piece
    → AfterGap spot.rank (none_left spot.before) spot.piece.gap progress → word.count ≡ length spot.piece.keyword
    → not (gap_at bytes next) ≡ spot.last → Says (entry_for bytes progress word next) spot
unfolding entry_for delay spot_ends
entry_says bytes progress word next spot within after count last = record {
  delays = omega (arith, after.opens, (delay_within spot.piece within).1);
  spans = after.closes;
  ranks = after.ranked;
  ends = rw (last, after.begins);
  soon = omega arith;
  short = rw after.closes (span_short spot.piece.gap within.gap);
}

-- ── The records ──

-- Some spots and phrases were entered: they are counted, the tables hold them, and the keywords are noted.
pub record Kept (bytes : List ℕ) (before : Notes) (spots : List Spot) (phrases : List Phrase) (phraseCount piece_count : ℕ) (notes : Notes) : Type 0 where
  pub named : phraseCount ≡ length phrases
  pub pieced : piece_count ≡ length spots
  pub held : Held before.tables spots phrases notes.tables
  pub noting : Noting bytes spots notes.words

module _ (bytes : List ℕ) (before : Notes) where
  -- So much was entered where this rest of the book begins.
  pub record Come (spots : List Spot) (phrases : List Phrase) (rest : List ℕ) (P : Progress → Type 0) : Type 0 where
    pub now : Reading
    pub going : Going bytes before now
    pub behind : drop now.progress.at bytes ≡ rest
    pub kept : Kept bytes before spots phrases now.progress.phrases now.progress.pieces now.notes
    pub is : P now.progress

  -- A turn over a record that is read goes on.
  turned : {spots : List Spot} {phrases : List Phrase} {here rest : List ℕ} {P : Progress → Type 0} {told : Record}
      (come : Come spots phrases here P) (reads : Reads bytes come.now.progress.at told rest)
      (next : Reading) → next ≡ record_turn bytes come.now told reads.next → Going bytes before next
  unfolding turn_at
  turned come reads next e = (going_more bytes before come.now come.going reads.more next (e ∙ ap (turn_for bytes come.now) (sym reads.finds))).1

  -- ── A record that leaves nothing ──

  pass : {spots : List Spot} {phrases : List Phrase} {here rest : List ℕ} (told : Record)
      → ((now : Reading) (next : ℕ) → record_turn bytes now told next ≡ reading (moved_to next now.progress) now.notes)
      → (come : Come spots phrases here Anywhere) → Reads bytes come.now.progress.at told rest → Come spots phrases rest Anywhere
  pass told moves come reads = record {
    now = reading (moved_to reads.next come.now.progress) come.now.notes;
    going = turned come reads _ (sym (moves come.now reads.next));
    behind = reads.behind;
    kept = come.kept;
    is = tt;
  }

  -- The header leaves nothing,
  pub header_step : {spots : List Spot} {phrases : List Phrase} {rest : List ℕ} → Come spots phrases (written_header ++ rest) Anywhere → Come spots phrases rest Anywhere
  header_step {rest = rest} come = pass _ (λ now next. refl) come (header_reads bytes come.now.progress.at rest come.behind)

  -- and neither does the end record.
  pub end_step : {spots : List Spot} {phrases : List Phrase} {rest : List ℕ} (count : ℕ) → Come spots phrases (written_end count ++ rest) Anywhere → Come spots phrases rest Anywhere
  end_step {rest = rest} count come = pass _ (λ now next. refl) come (end_reads bytes come.now.progress.at rest count come.behind)

  -- ── A gap ──

  -- A gap is kept for the keyword that follows.
  pub gap_step : {spots : List Spot} {phrases : List Phrase} {rest : List ℕ} {rank : ℕ} {first : Bool} (gap : Gap)
      → Come spots phrases (written_gap gap ++ rest) (InPhrase rank first) → Come spots phrases rest (AfterGap rank first gap)
  unfolding least_of gap_span
  gap_step {spots} {phrases} {rest} {rank} {first} gap come = record {
    now = next;
    going = turned come reads next (by gap reads.next);
    behind = reads.behind;
    kept = come.kept;
    is = record { ranked = come.is.ranked; begins = come.is.begins; opens = refl; closes = refl };
  }
    where
      reads : Reads bytes come.now.progress.at (gap_said gap) rest
      reads = gap_reads bytes come.now.progress.at rest gap come.behind

      next : Reading
      next = reading (after_gap (least_of gap) (gap_span gap) reads.next come.now.progress) come.now.notes

      by : (gap : Gap) (offset : ℕ) → reading (after_gap (least_of gap) (gap_span gap) offset come.now.progress) come.now.notes ≡ record_turn bytes come.now (gap_said gap) offset
      by (bounded least most) offset = refl
      by (open_from least) offset = refl

  module _ (whole : Whole before.tables) where
    -- ── A phrase record ──

    -- The phrase is entered behind the others, with their number as its rank.
    pub name_step : {spots : List Spot} {phrases : List Phrase} {rest : List ℕ} (phrase : Phrase) → phrase.number < 65536 → length phrases < room_for_phrases
        → Come spots phrases (written_name phrase ++ rest) Anywhere → Come spots (phrases ++ phrase ∷ []) rest (InPhrase (length phrases) true)
    unfolding phrase_turn
    name_step {spots} {phrases} {rest} phrase small room come = record {
      now = next;
      going = turned come reads next (rw (lt-ltb progress.phrases room_for_phrases there));
      behind = reads.behind;
      kept = record {
        named = omega (arith, kept.named, length_further phrases phrase);
        pieced = kept.pieced;
        held = held_phrase before.tables whole spots phrases come.now.notes.tables kept.held progress.phrases kept.named there phrase small;
        noting = kept.noting;
      };
      is = record { ranked = kept.named; begins = refl };
    }
      where
        progress : Progress
        progress = come.now.progress

        kept : Kept bytes before spots phrases come.now.progress.phrases come.now.progress.pieces come.now.notes
        kept = come.kept

        there : come.now.progress.phrases < room_for_phrases
        there = omega (arith, come.kept.named)

        reads : Reads bytes come.now.progress.at (says.Phrase (number_of phrase.number) phrase.rights) rest
        reads = name_reads bytes come.now.progress.at rest phrase come.behind

        next : Reading
        next = reading (after_name (rank_of progress.phrases) reads.next progress)
            (noted (with_phrase progress.phrases phrase.number phrase.rights come.now.notes.tables) come.now.notes.words)

    -- ── A keyword ──

    -- The piece that ends here is entered behind the others as its spot says: it is the last of its phrase where no gap follows.
    pub keyword_step : {spots : List Spot} {phrases : List Phrase} {rest : List ℕ} (spot : Spot) → PieceWithin spot.piece → length spots < room_for_pieces
        → ((offset : ℕ) → drop offset bytes ≡ rest → not (gap_at bytes offset) ≡ spot.last)
        → Come spots phrases (written_keyword spot.piece.keyword ++ rest) (AfterGap spot.rank (none_left spot.before) spot.piece.gap)
        → Come (spots ++ spot ∷ []) phrases rest (InPhrase spot.rank false)
    unfolding keyword_turn
    keyword_step {spots} {phrases} {rest} spot within room follows come = record {
      now = next;
      going = turned come reads next (rw (lt-ltb progress.pieces room_for_pieces there));
      behind = reads.behind;
      kept = record {
        named = kept.named;
        pieced = omega (arith, kept.pieced, length_further spots spot);
        held = held_piece before.tables whole spots phrases notes.tables kept.held progress.pieces kept.pieced there (entry_for bytes progress word reads.next) spot
            (entry_says bytes progress word reads.next spot within come.is refl (follows reads.next reads.behind));
        noting = noting_more bytes spots notes.words kept.noting progress.pieces kept.pieced there spot word
            (keyword_located bytes progress.at rest spot.piece.keyword within.long come.behind);
      };
      is = record { ranked = come.is.ranked; begins = refl };
    }
      where
        progress : Progress
        progress = come.now.progress

        notes : Notes
        notes = come.now.notes

        kept : Kept bytes before spots phrases come.now.progress.phrases come.now.progress.pieces come.now.notes
        kept = come.kept

        there : come.now.progress.pieces < room_for_pieces
        there = omega (arith, come.kept.pieced)

        reads : Reads bytes come.now.progress.at (says.Keyword (come.now.progress.at + 1) (length spot.piece.keyword)) rest
        reads = keyword_reads bytes come.now.progress.at rest spot.piece.keyword within.long come.behind

        word : Stretch
        word = stretch (come.now.progress.at + 1) (length spot.piece.keyword)

        next : Reading
        next = reading (after_piece reads.next progress)
            (noted (with_piece progress.pieces (entry_for bytes progress word reads.next) notes.tables) (set notes.words progress.pieces word))
