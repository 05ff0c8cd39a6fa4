-- The survey notes where the keyword of each piece stands, and the pieces of a book come in the order of its keywords: so what it
-- notes gives the keywords of the book. Assumes nothing.
use mathlib.Core.Path.{◌≡◌, ap, ◌∙◌}
use mathlib.Core.List.{List, []}
use Prim.Native.Nat.{ℕ, ◌≤◌, ◌<◌}
use native.Mathlib.Omega.{arith}
use lib.ListN.{length, get_or, take}
use lib.Seq.{ext_get_or, length-take-le, get_or-take}
use Rattle.lent.specs.Numbers.{Bytes}
use Rattle.meaning.specs.Books.{Book, keywords}
use Rattle.format.specs.Judged.{AcceptedAs}
use Rattle.format.proofs.Accepted.{written_long}
use Rattle.tables.proofs.Fits.{fits}
use Rattle.survey.specs.declared.Surveyed.{Surveyed}
use Rattle.tables.specs.Layout.{room_for_pieces}
use Rattle.survey.specs.declared.stretch.Stretch.{Stretch}
use Rattle.survey.specs.Stretches.{nowhere, bytes_of}
use Rattle.survey.specs.Turns.{Notes}
use Rattle.survey.specs.Meant.{SurveyMeant}
use Rattle.filling.specs.Keywords.{keyword_in, keywords_in, Gives}
use Rattle.linking.proofs.Pieces.{keyword_of_lem, keyword_count, length_keywords, keywords_at}

module _ (book : Book) (bytes : List ℕ) (each : Bytes bytes) (accepted : AcceptedAs bytes book)
    (before : Notes) (answer : Surveyed) (after : Notes) (meant : SurveyMeant book bytes before answer after) where
  abbrev words : List Stretch
  words = take answer.pieces after.words

  few : answer.pieces ≤ room_for_pieces
  few = omega (arith, meant.pieces, (fits book accepted.within).pieces)

  pub words_long : length words ≡ answer.pieces
  words_long = length-take-le answer.pieces after.words (omega (arith, few, meant.room))

  word_at : (q : ℕ) → q < answer.pieces → get_or words q nowhere ≡ get_or after.words q nowhere
  word_at q l = get_or-take answer.pieces after.words q nowhere l

  same_keyword : (q : ℕ) → q < answer.pieces → get_or (keywords_in bytes words) q [] ≡ get_or (keywords book.phrases) q []
  unfolding keyword_in
  same_keyword q l =
      keywords_at bytes words q (omega (arith, words_long))
      ∙ ap (bytes_of bytes) (word_at q l)
      ∙ (meant.keywords q (omega (arith, meant.pieces))).there
      ∙ keyword_of_lem book q

  pub notes_give : Gives bytes words book
  notes_give = record {
    bytes = each;
    inside = record {
      few = omega (arith, words_long, few);
      small = omega (arith, ap length accepted.whole, written_long book accepted.within);
      ends = λ q l. let below : q < answer.pieces = omega (arith, words_long) in rw (word_at q below) (meant.keywords q (omega (arith, meant.pieces))).inside;
      short = λ q l. let below : q < answer.pieces = omega (arith, words_long) in rw (word_at q below) (meant.keywords q (omega (arith, meant.pieces))).short;
    };
    all = ext_get_or [] (keywords_in bytes words) (keywords book.phrases) (length_keywords bytes words ∙ words_long ∙ meant.pieces ∙ keyword_count book)
        (λ q l. same_keyword q (omega (arith, length_keywords bytes words, words_long)));
  }
