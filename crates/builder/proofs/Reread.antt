-- The second reading of an accepted book, in cleared memory, notes the keywords of the book and leaves the regions of the states as
-- they were: so the passes over the states have what they ask for. Assumes nothing.
use mathlib.Core.Path.{◌≡◌, ap, ◌∙◌}
use mathlib.Core.Logic.{inl}
use mathlib.Core.List.{List}
use Prim.Native.Nat.{ℕ, ◌≤◌, ◌<◌}
use native.Mathlib.Omega.{arith}
use lib.ListN.{length, take, replicate, length-replicate}
use Rattle.lent.specs.Numbers.{Bytes}
use Rattle.meaning.specs.Books.{Book}
use Rattle.format.proofs.Accepted.{written_long}
use Rattle.tables.specs.Layout.{room_for_pieces, room_for_phrases, mark_from}
use Rattle.tables.proofs.Fits.{fits}
use Rattle.survey.specs.declared.Surveyed.{Surveyed}
use Rattle.survey.specs.declared.stretch.Stretch.{Stretch}
use Rattle.survey.specs.Stretches.{nowhere}
use Rattle.survey.specs.Turns.{Notes, noted}
use Rattle.survey.specs.Survey.{SurveyExact}
use Rattle.survey.specs.Meant.{Blank, SurveyMeant}
use Rattle.survey.proofs.Right.{survey_meant}
use Rattle.builder.specs.Passes.{Fresh, Readied, StatesExact, rows_by, with_header, read_into, tables_after, tables_from}
use Rattle.builder.proofs.Given.{notes_give}

-- What the survey is lent.
abbrev pub unread : List ℕ → Notes
unread blank = noted blank (replicate room_for_pieces nowhere)

module _ (book : Book) (bytes blank : List ℕ) (each : Bytes bytes) (fresh : Fresh book bytes blank) where
  -- No accepted book is longer than 10,245 bytes.
  pub few_bytes : length bytes < 65536
  few_bytes = omega (arith, ap length fresh.accepted.whole, written_long book fresh.accepted.within)

  unread_blank : Blank (unread blank)
  unread_blank = record {
    whole = fresh.whole;
    zero = λ k a b. fresh.zeros k (omega arith) b;
    words = length-replicate {A = Stretch} room_for_pieces nowhere;
  }

  module _ (answer : Surveyed) (after : Notes) (exact : SurveyExact bytes (unread blank) answer after) where
    pub reread_meant : SurveyMeant book bytes (unread blank) answer after
    reread_meant = survey_meant book bytes (unread blank) unread_blank fresh.accepted exact

    pub reread_readied : Readied book bytes (noted after.tables (take answer.pieces after.words))
    reread_readied = record {
      within = fresh.accepted.within;
      gives = notes_give book bytes each fresh.accepted (unread blank) answer after reread_meant;
      whole = omega (arith, reread_meant.entered.long, fresh.whole);
      zeros = λ k a b. reread_meant.entered.elsewhere k (inl b) ∙ fresh.zeros k a (omega arith);
    }

    pub few_pieces : answer.pieces ≤ room_for_pieces
    few_pieces = omega (arith, reread_meant.pieces, (fits book fresh.accepted.within).pieces)

    pub few_phrases : answer.phrases ≤ room_for_phrases
    few_phrases = omega (arith, reread_meant.phrases, (fits book fresh.accepted.within).phrases)

-- The passes one after the other, each as it is defined, make the tables.
pub passes_are : (bytes blank : List ℕ) (answer : Surveyed) (after : Notes) → SurveyExact bytes (unread blank) answer after
    → (states : ℕ) (t : List ℕ) → StatesExact bytes (noted after.tables (take answer.pieces after.words)) states t
    → (rowed : List ℕ) → rowed ≡ rows_by states t
    → (mark : ℕ) → mark ≡ mark_from 0 bytes
    → with_header states answer.pieces answer.phrases mark rowed ≡ tables_from bytes blank
unfolding tables_from tables_after read_into
passes_are bytes blank answer after read states t filled rowed rows mark is = rw (rows, filled.count, filled.tables, is, read.counts, read.notes)
