-- Every whole record agrees with the format: its turn is that of its first fault, and it adds to the keywords what it adds to the
-- stage's. Assumes nothing.
use mathlib.Core.Path.{◌≡◌, refl, sym, ap, ◌∙◌}
use mathlib.Core.Logic.{⊎_elim}
use mathlib.Core.Bool.{So, ◌||◌, false≢true}
use mathlib.Core.List.{List, [], ◌∷◌, ◌++◌, append-nil}
use Prim.Native.Nat.{ℕ, ◌+◌, ◌≤◌}
use lib.Dec.{eqb}
use lib.ListN.{length, take, drop, get_or}
use lib.Seq.{length-take-le}
use borrow.Author.Tests.{eqb-true}
use Rattle.meaning.specs.Books.{Gap, Phrase, keywords}
use Rattle.format.specs.Written.{header_kind, phrase_kind, bounded_kind, open_kind, end_kind}
use Rattle.format.specs.Stages.{Stage, start, headed, named, gapped, worded, ended, phrases_at, pieces_at}
use Rattle.format.specs.Faults.{is_gap, is_keyword, allowed, body_length, two, first_fault}
use Rattle.format.specs.Judged.{gap_of, phrase_of, onward}
use Rattle.format.proofs.Tests.{or_cases}
use Rattle.format.proofs.Bodies.{keyword_only}
use Rattle.format.proofs.Counted.{keywords_named, keywords_further}
use Rattle.records.specs.declared.records.Record.TheVariants.{Keyword}
use Rattle.records.specs.Records.{body_at, whole_at}
use Rattle.records.specs.Prefixes.{keyword_of, keywords_before}
use Rattle.book.specs.Judging.{record_turn}
use Rattle.book.specs.Tallies.{tally_of, turn_for}
use Rattle.book.proofs.TurnByTests.{header_fault, phrase_fault, bounded_fault, open_fault, end_fault, keyword_fault}
use Rattle.book.proofs.TurnByTests.{header_turn_lem, phrase_turn_lem, bounded_turn_lem, open_turn_lem, end_turn_lem, keyword_turn_lem}

module _ (bytes : List ℕ) (at : ℕ) where
  -- A whole record of kind k: its turn is that of its first fault, and it adds its keyword to those of the stage.
  pub record Agrees (stage : Stage) (k : ℕ) : Type 0 where
    pub turn : record_turn bytes at (tally_of stage) (whole_at bytes at k).says
        ≡ turn_for (first_fault stage (k ∷ drop (at + 1) bytes)) (onward stage k (take (body_length k) (drop (at + 1) bytes)))
    pub words : keywords (phrases_at (onward stage k (take (body_length k) (drop (at + 1) bytes)))) ≡ keywords (phrases_at stage) ++ keyword_of bytes (whole_at bytes at k).says

  abbrev Long : ℕ → Type 0
  Long k = body_length k ≤ length (drop (at + 1) bytes)

  -- The bytes behind the kind, and those of the body.
  abbrev behind : List ℕ
  behind = drop (at + 1) bytes

  abbrev body : ℕ → List ℕ
  body k = take (body_length k) (drop (at + 1) bytes)

  header_agrees : Long header_kind → Agrees start header_kind
  unfolding record_turn whole_at body_at phrases_at onward keywords keyword_of
  header_agrees long = record {
    turn = rw (header_fault behind long) (header_turn_lem (get_or (body header_kind) 0 0));
    words = refl;
  }

  phrase_agrees : (stage : Stage) → So (allowed stage phrase_kind) → onward stage phrase_kind (body phrase_kind) ≡ named (phrases_at stage) (phrase_of (body phrase_kind))
      → Long phrase_kind → Agrees stage phrase_kind
  unfolding record_turn whole_at body_at phrases_at keyword_of phrase_of
  phrase_agrees stage allows goes long = record {
    turn = rw (phrase_fault behind stage allows long, goes) (phrase_turn_lem stage (body phrase_kind));
    words = rw goes (keywords_named (phrases_at stage) (phrase_of (body phrase_kind)) refl ∙ sym (append-nil (keywords (phrases_at stage))));
  }

  -- Behind whole phrases and a phrase so far, a gap of either kind.
  module _ (stage : Stage) (phrases : List Phrase) (phrase : Phrase) (is : phrases_at stage ≡ phrases ++ phrase ∷ []) (own : pieces_at stage ≡ phrase.pieces) where
    bounded_agrees : So (allowed stage bounded_kind) → onward stage bounded_kind (body bounded_kind) ≡ gapped phrases phrase (gap_of bounded_kind (body bounded_kind))
        → Long bounded_kind → Agrees stage bounded_kind
    unfolding record_turn whole_at body_at phrases_at keyword_of
    bounded_agrees allows goes long = record {
      turn = rw (bounded_fault behind stage allows long, goes)
          (bounded_turn_lem stage phrases phrase (gap_of bounded_kind (body bounded_kind)) is own (two (body bounded_kind) 0) (two (body bounded_kind) 2));
      words = rw goes (ap keywords (sym is) ∙ sym (append-nil (keywords (phrases_at stage))));
    }

    open_agrees : So (allowed stage open_kind) → onward stage open_kind (body open_kind) ≡ gapped phrases phrase (gap_of open_kind (body open_kind))
        → Long open_kind → Agrees stage open_kind
    unfolding record_turn whole_at body_at phrases_at keyword_of
    open_agrees allows goes long = record {
      turn = rw (open_fault behind stage allows long, goes) (open_turn_lem stage phrases phrase (gap_of open_kind (body open_kind)) is own (two (body open_kind) 0));
      words = rw goes (ap keywords (sym is) ∙ sym (append-nil (keywords (phrases_at stage))));
    }

  end_agrees : (phrases : List Phrase) (phrase : Phrase) → Long end_kind → Agrees (worded phrases phrase) end_kind
  unfolding record_turn whole_at body_at phrases_at onward keyword_of allowed
  end_agrees phrases phrase long = record {
    turn = rw (end_fault behind (worded phrases phrase) refl long) (end_turn_lem phrases phrase (two (body end_kind) 0));
    words = sym (append-nil (keywords (phrases ++ phrase ∷ [])));
  }

  keyword_is : (k : ℕ) → So (is_keyword k) → (whole_at bytes at k).says ≡ Keyword (at + 1) (body_length k)
  unfolding whole_at
  keyword_is k h = simp (keyword_only k h)

  keyword_agrees : (phrases : List Phrase) (phrase : Phrase) (gap : Gap) → keywords_before bytes at ≡ keywords (phrases ++ phrase ∷ [])
      → (k : ℕ) → So (is_keyword k) → Long k → Agrees (gapped phrases phrase gap) k
  unfolding record_turn phrases_at onward keyword_of allowed
  keyword_agrees phrases phrase gap before k h long = record {
    turn = rw (keyword_is k h, keyword_fault behind (gapped phrases phrase gap) k h h long)
        (keyword_turn_lem at bytes phrases phrase gap before (at + 1) (body_length k) (length-take-le (body_length k) behind long));
    words = rw (keyword_is k h) (keywords_further phrases phrase (record { gap = gap; keyword = body k }));
  }

  -- What holds at a kind holds at a k that is found to be it.
  at_kind : (stage : Stage) (k other : ℕ) → (Long other → Agrees stage other) → Long k → So (eqb k other) → Agrees stage k
  at_kind stage k other h long is = let e : k ≡ other = eqb-true k other is in rw e (h (rw e at long))

  pub record_agrees : (stage : Stage) (k : ℕ) → So (allowed stage k) → keywords_before bytes at ≡ keywords (phrases_at stage) → Long k → Agrees stage k
  unfolding allowed phrases_at pieces_at onward is_gap
  record_agrees start k allows before long = at_kind start k header_kind header_agrees long allows
  record_agrees headed k allows before long = at_kind headed k phrase_kind (phrase_agrees headed refl refl) long allows
  record_agrees (named phrases phrase) k allows before long = ⊎_elim
      (λ h. at_kind (named phrases phrase) k bounded_kind (bounded_agrees (named phrases phrase) phrases phrase refl refl refl refl) long h)
      (λ h. at_kind (named phrases phrase) k open_kind (open_agrees (named phrases phrase) phrases phrase refl refl refl refl) long h)
      (or_cases (eqb k bounded_kind) (eqb k open_kind) allows)
  record_agrees (gapped phrases phrase gap) k allows before long = keyword_agrees phrases phrase gap before k allows long
  record_agrees (worded phrases phrase) k allows before long = ⊎_elim
      (λ h. at_kind (worded phrases phrase) k phrase_kind (phrase_agrees (worded phrases phrase) refl refl) long h)
      (λ h. ⊎_elim
      (λ h. at_kind (worded phrases phrase) k end_kind (end_agrees phrases phrase) long h)
      (λ h. ⊎_elim
      (λ h. at_kind (worded phrases phrase) k bounded_kind (bounded_agrees (worded phrases phrase) phrases phrase refl refl refl refl) long h)
      (λ h. at_kind (worded phrases phrase) k open_kind (open_agrees (worded phrases phrase) phrases phrase refl refl refl refl) long h)
      (or_cases (eqb k bounded_kind) (eqb k open_kind) h))
      (or_cases (eqb k end_kind) (is_gap k) h))
      (or_cases (eqb k phrase_kind) (eqb k end_kind || is_gap k) allows)
  record_agrees (ended phrases) k allows before long = absurd (false≢true allows)
