-- Every stage within the limits but the start came from one within the limits, by the last record that is written before it: what
-- is counted there is no more, and the record says what was last. Assumes nothing.
use mathlib.Core.Path.{◌≡◌, refl, ap}
use mathlib.Core.Logic.{◌⊎◌, inl, inr, ⊎_elim}
use mathlib.Core.List.{List, [], ◌∷◌, ◌++◌}
use Prim.Native.Nat.{◌+◌, ◌≤◌, ◌<◌}
use native.Mathlib.Omega.{arith}
use lib.ListN.{length}
use Rattle.meaning.specs.Books.{Gap, Piece, Phrase}
use Rattle.format.specs.Limits.{All, PieceWithin, most_phrases, most_pieces_of_phrase, PhraseSoFar, PhraseWithin, CountsWithin}
use Rattle.format.specs.Stages.{Stage, start, headed, named, gapped, worded, ended, SoFar}
use Rattle.format.specs.Faults.{last_number}
use Rattle.format.specs.Judged.{with_piece}
use Rattle.format.proofs.Lists.{length_further, empty_or_ends, all_left, all_right}
use Rattle.format.proofs.Counted.{further_above, counts_without, counts_before, room_before, few_before}
use Rattle.format.proofs.Made.{Made, header_made, phrase_made, gap_made, keyword_made, end_made}
use Rattle.format.proofs.Steps.{PhraseBegins, PieceBegins, phrase_headed, phrase_worded, piece_named, piece_worded}

-- A record leads to a stage from another.
pub record Came (next : Stage) : Type 0 where
  pub stage : Stage
  pub made : Made stage next

named_came : (phrases : List Phrase) (phrase : Phrase) → SoFar (named phrases phrase) → Came (named phrases phrase)
unfolding SoFar All
named_came phrases phrase s = ⊎_elim
    (λ (e : phrases ≡ []). rw e (by_phrase headed tt [] phrase_headed (rw e at s)))
    (λ r. rw r.2 (behind r.0 r.1 (rw r.2 at s)))
    (empty_or_ends phrases)
  where
    by_phrase : (stage : Stage) → SoFar stage → (phrases : List Phrase) → PhraseBegins stage phrases
        → SoFar (named phrases phrase) → Came (named phrases phrase)
    by_phrase stage so_far phrases begins s =
        let above : last_number phrases < phrase.number = further_above phrase phrases s.3.ascend in
        let room : length phrases < most_phrases = omega (arith, length_further phrases phrase, s.3.count) in
        record { stage = stage; made = phrase_made stage so_far phrases begins phrase s.2 s.1.number s.1.rights above room }

    behind : (front : List Phrase) (final : Phrase) → SoFar (named (front ++ final ∷ []) phrase) → Came (named (front ++ final ∷ []) phrase)
    behind front final s =
        let within : SoFar (worded front final) = (
          all_left PhraseWithin front (final ∷ []) s.0,
          (all_right PhraseWithin front (final ∷ []) s.0).0,
          counts_without (front ++ final ∷ []) phrase s.3,
        ) in
        by_phrase (worded front final) within (front ++ final ∷ []) (phrase_worded front final within) s

gapped_came : (phrases : List Phrase) (phrase : Phrase) (gap : Gap) → SoFar (gapped phrases phrase gap) → Came (gapped phrases phrase gap)
unfolding SoFar
gapped_came phrases phrase gap s = ⊎_elim
    (λ (e : phrase.pieces ≡ []).
    let within : SoFar (named phrases phrase) = (s.0, s.1, e, s.2) in
    by_gap (named phrases phrase) within (piece_named phrases phrase within))
    (λ r.
    let whole : PhraseWithin phrase = record { so_far = s.1; pieced = omega (arith, ap length r.2, length_further r.0 r.1) } in
    let within : SoFar (worded phrases phrase) = (s.0, whole, s.2) in
    by_gap (worded phrases phrase) within (piece_worded phrases phrase within))
    (empty_or_ends phrase.pieces)
  where
    by_gap : (stage : Stage) → SoFar stage → PieceBegins stage phrases phrase → Came (gapped phrases phrase gap)
    by_gap stage so_far begins = record {
      stage = stage;
      made = gap_made stage so_far phrases phrase begins gap s.3 (rw (begins.pieces, begins.at) (s.4, s.5));
    }

worded_came : (phrases : List Phrase) (phrase : Phrase) → SoFar (worded phrases phrase) → Came (worded phrases phrase)
unfolding SoFar with_piece All
worded_came phrases phrase s = ⊎_elim
    (λ (e : phrase.pieces ≡ []). absurd (omega (arith, ap length e, s.1.pieced)))
    (λ r. with_last r.0 r.1 r.2)
    (empty_or_ends phrase.pieces)
  where
    by_keyword : (phrase : Phrase) (piece : Piece) → SoFar (worded phrases (with_piece phrase piece)) → Came (worded phrases (with_piece phrase piece))
    by_keyword phrase piece s =
        let counts : CountsWithin (phrases ++ with_piece phrase piece ∷ []) = s.2 in
        let within : PieceWithin piece = (all_right PieceWithin phrase.pieces (piece ∷ []) s.1.so_far.pieces).0 in
        let earlier : All PieceWithin phrase.pieces = all_left PieceWithin phrase.pieces (piece ∷ []) s.1.so_far.pieces in
        let room : length phrase.pieces + 1 ≤ most_pieces_of_phrase = omega (arith, length_further phrase.pieces piece, s.1.so_far.count) in
        let so_far : PhraseSoFar phrase = record { number = s.1.so_far.number; rights = s.1.so_far.rights; pieces = earlier; count = omega arith } in
        let from : SoFar (gapped phrases phrase piece.gap) =
        (s.0, so_far, counts_before phrases phrase piece counts, within.gap, room, room_before phrases phrase piece counts) in
        record {
          stage = gapped phrases phrase piece.gap;
          made = keyword_made phrases phrase piece from within.long within.bytes (few_before phrases phrase piece counts);
        }

    with_last : (front : List Piece) (final : Piece) → phrase.pieces ≡ front ++ final ∷ [] → Came (worded phrases phrase)
    with_last front final e =
        let earlier : Phrase = record { number = phrase.number; rights = phrase.rights; pieces = front } in
        let is : phrase ≡ with_piece earlier final = ap (λ (l : List Piece). record { number = phrase.number; rights = phrase.rights; pieces = l }) e in
        rw is (by_keyword earlier final (rw is at s))

ended_came : (phrases : List Phrase) → SoFar (ended phrases) → Came (ended phrases)
unfolding SoFar All
ended_came phrases s = ⊎_elim
    (λ (e : phrases ≡ []). absurd (omega (arith, ap length e, s.2)))
    (λ r. rw r.2 (by_end r.0 r.1 (rw r.2 at s)))
    (empty_or_ends phrases)
  where
    by_end : (front : List Phrase) (final : Phrase) → SoFar (ended (front ++ final ∷ [])) → Came (ended (front ++ final ∷ []))
    by_end front final s = record {
      stage = worded front final;
      made = end_made front final (all_left PhraseWithin front (final ∷ []) s.0, (all_right PhraseWithin front (final ∷ []) s.0).0, s.1);
    }

-- Every stage within the limits is the start, or a record led to it from one within the limits.
pub came : (stage : Stage) → SoFar stage → (stage ≡ start) ⊎ Came stage
came start s = inl refl
came headed s = inr (record { stage = start; made = header_made })
came (named phrases phrase) s = inr (named_came phrases phrase s)
came (gapped phrases phrase gap) s = inr (gapped_came phrases phrase gap s)
came (worded phrases phrase) s = inr (worded_came phrases phrase s)
came (ended phrases) s = inr (ended_came phrases s)
