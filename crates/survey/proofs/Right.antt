-- The survey of an accepted book comes through its header, its phrases and its end record, and then stands at the end of the
-- bytes: what it leaves is the book's. Assumes nothing.
use mathlib.Core.Path.{◌≡◌, refl, sym, ap, subst, ◌∙◌}
use mathlib.Core.List.{List, [], append-nil}
use Prim.Native.Nat.{ℕ}
use native.Mathlib.Omega.{arith}
use lib.ListN.{length, length-drop}
use Rattle.meaning.specs.Books.{Book}
use Rattle.format.specs.Written.{written_end, written}
use Rattle.format.specs.Judged.{AcceptedAs}
use Rattle.tables.specs.Spots.{spots_from, spots_of, no_spot, spot_at, spot_count, no_phrase}
use Rattle.tables.specs.Endings.{keyword_of}
use Rattle.tables.specs.Layout.{mark_from, book_mark, delay_of, span_of, rank_of, ends_of, number_of_rank, rights_of_rank, spot_ends}
use Rattle.survey.specs.declared.Surveyed.{Surveyed}
use Rattle.survey.specs.Progress.{at_start}
use Rattle.survey.specs.Turns.{Notes, reading}
use Rattle.survey.specs.Survey.{surveyed, counts_of, SurveyExact}
use Rattle.survey.specs.Meant.{Blank, Entered, SurveyMeant}
use Rattle.survey.proofs.Columns.{as_laid}
use Rattle.survey.proofs.Loop.{going_start, going_done}
use Rattle.survey.proofs.Held.{spot_delay, spot_span, spot_rank, phrase_number, phrase_rights, Held, held_blank}
use Rattle.survey.proofs.Steps.{Anywhere, Come, header_step, end_step}
use Rattle.survey.proofs.Phrases.{phrases_come}

-- The columns of the tables as the layout of the book has them.
entered : (book : Book) (before t : List ℕ) → Held before (spots_of book) book.phrases t → Entered book before t
unfolding spot_count spot_at delay_of span_of rank_of ends_of number_of_rank rights_of_rank
entered book before t held = record {
  delays = λ p inside. held.delays p inside ∙ as_laid spot_delay no_spot (spots_of book) p;
  spans = λ p inside. held.spans p inside ∙ as_laid spot_span no_spot (spots_of book) p;
  links = held.links;
  ranks = λ p inside. held.ranks p inside ∙ as_laid spot_rank no_spot (spots_of book) p;
  ends = λ p inside. held.ends p inside ∙ as_laid spot_ends no_spot (spots_of book) p;
  numbers = λ j inside. held.numbers j inside ∙ as_laid phrase_number no_phrase book.phrases j;
  rights = λ j inside. held.rights j inside ∙ as_laid phrase_rights no_phrase book.phrases j;
  spares = held.spares;
  elsewhere = held.elsewhere;
  long = held.long;
}

module _ (book : Book) (bytes : List ℕ) (before : Notes) (blank : Blank before) where
  -- Before the first record nothing was entered.
  start : Come bytes before [] [] bytes Anywhere
  start = record {
    now = reading at_start before;
    going = going_start bytes before (reading at_start before) refl;
    behind = refl;
    kept = record {
      named = refl;
      pieced = refl;
      held = held_blank before blank;
      noting = record { words_room = blank.words; each = λ p inside. absurd (omega arith) };
    };
    is = tt;
  }

  module _ (accepted : AcceptedAs bytes book) where
    -- Through the whole book everything is entered.
    through : Come bytes before (spots_of book) book.phrases [] Anywhere
    unfolding written spots_of
    through =
        end_step bytes before (length book.phrases)
        (subst (λ (rest : List ℕ). Come bytes before (spots_from 0 book.phrases) book.phrases rest Anywhere) (sym (append-nil (written_end (length book.phrases))))
        (phrases_come bytes before blank.whole (length book.phrases) book.phrases [] [] accepted.within.each (omega (arith, accepted.within.counts.count))
        (omega (arith, accepted.within.counts.pieces))
        (header_step bytes before (subst (λ (rest : List ℕ). Come bytes before [] [] rest Anywhere) accepted.whole start))))

    -- There the survey has come to its end.
    ended : through.now ≡ surveyed bytes before
    ended = going_done bytes before through.now through.going (omega (arith, length-drop through.now.progress.at bytes, ap length through.behind))

    -- What stands there is the book's.
    meant : SurveyMeant book bytes before (counts_of through.now) through.now.notes
    unfolding spot_count keyword_of spot_at
    meant = record {
      phrases = through.kept.named;
      pieces = through.kept.pieced;
      entered = entered book before.tables through.now.notes.tables through.kept.held;
      room = through.kept.noting.words_room;
      keywords = through.kept.noting.each;
    }

    -- What the survey of an accepted book answers and leaves is the book's.
    pub survey_meant : {answer : Surveyed} {after : Notes} → SurveyExact bytes before answer after → SurveyMeant book bytes before answer after
    survey_meant exact = rw (exact.counts, exact.notes, ← ended) meant

-- The mark of an accepted book's bytes is the book's.
pub mark_meant : {bytes : List ℕ} {book : Book} → AcceptedAs bytes book → mark_from 0 bytes ≡ book_mark book
unfolding book_mark
mark_meant accepted = ap (mark_from 0) accepted.whole
