-- Record after record, the survey comes through the pieces of a phrase and through the phrases of a book. Assumes nothing.
use mathlib.Core.Path.{◌≡◌, refl, sym, ap, subst, ◌∙◌}
use mathlib.Core.Bool.{Bool, true, false, not}
use mathlib.Core.List.{List, [], ◌∷◌, ◌++◌, append_assoc, append-nil}
use Prim.Native.Nat.{ℕ, ◌+◌, ◌≤◌, ◌<◌}
use native.Mathlib.Omega.{arith}
use lib.ListN.{length, drop, length-append}
use lib.Seq.{append_snoc}
use Rattle.meaning.specs.Books.{Gap, bounded, open_from, Piece, Phrase}
use Rattle.format.specs.Limits.{All, PieceWithin, PhraseWithin, piece_count}
use Rattle.format.specs.Written.{written_gap, written_keyword, written_name, written_pieces, written_phrases, written_end}
use Rattle.format.proofs.Lists.{length_further}
use Rattle.tables.specs.Spots.{Spot, none_left, spots_after, spots_from}
use Rattle.tables.proofs.Spots.{length_after}
use Rattle.tables.specs.Layout.{room_for_pieces, room_for_phrases}
use Rattle.tables.specs.Reads.{Whole}
use Rattle.survey.specs.Turns.{Notes, is_gap, found_gap, gap_at}
use Rattle.survey.proofs.Records.{gap_said, name_reads, gap_reads, end_reads}
use Rattle.survey.proofs.Steps.{Anywhere, InPhrase, Come, name_step, gap_step, keyword_step}

-- ── What follows a keyword ──

-- No gap begins where this rest of the book does.
abbrev pub NoGap : List ℕ → List ℕ → Type 0
NoGap bytes rest = (offset : ℕ) → drop offset bytes ≡ rest → gap_at bytes offset ≡ false

is_gap_lem : (gap : Gap) → is_gap (gap_said gap) ≡ true
is_gap_lem (bounded least most) = refl
is_gap_lem (open_from least) = refl

module _ (bytes : List ℕ) where
  end_no_gap : (count : ℕ) → NoGap bytes (written_end count)
  unfolding gap_at
  end_no_gap count offset here = ap found_gap (end_reads bytes offset [] count (here ∙ sym (append-nil (written_end count)))).finds

  -- Behind the pieces of a phrase comes another phrase or the end.
  phrases_no_gap : (phrases : List Phrase) (count : ℕ) → NoGap bytes (written_phrases phrases ++ written_end count)
  unfolding gap_at written_phrases
  phrases_no_gap [] count offset here = end_no_gap count offset here
  phrases_no_gap (phrase ∷ phrases) count offset here =
      ap found_gap (name_reads bytes offset ((written_pieces phrase.pieces ++ written_phrases phrases) ++ written_end count) phrase (here ∙ append_assoc (written_name phrase) (written_pieces phrase.pieces ++ written_phrases phrases) (written_end count))).finds

  -- A gap follows exactly where a piece is left.
  follows : (pieces : List Piece) (rest : List ℕ) → NoGap bytes rest → (offset : ℕ) → drop offset bytes ≡ written_pieces pieces ++ rest → not (gap_at bytes offset) ≡ none_left pieces
  unfolding gap_at written_pieces none_left
  follows [] rest none offset here = ap not (none offset here)
  follows (piece ∷ pieces) rest none offset here =
      ap not (ap found_gap (gap_reads bytes offset ((written_keyword piece.keyword ++ written_pieces pieces) ++ rest) piece.gap (here ∙ append_assoc (written_gap piece.gap) (written_keyword piece.keyword ++ written_pieces pieces) rest)).finds ∙ is_gap_lem piece.gap)

-- ── The pieces of a phrase ──

-- Behind a piece another one is not the first.
not_left : (past : List Piece) (piece : Piece) → none_left (past ++ piece ∷ []) ≡ false
unfolding none_left
not_left [] piece = refl
not_left (first ∷ past) piece = refl

module _ (bytes : List ℕ) (before : Notes) (whole : Whole before.tables) where
  -- What is known of the progress may be forgotten.
  anywhere : {spots : List Spot} {phrases : List Phrase} {rest : List ℕ} {rank : ℕ} {first : Bool} → Come bytes before spots phrases rest (InPhrase rank first) → Come bytes before spots phrases rest Anywhere
  anywhere come = record { now = come.now; going = come.going; behind = come.behind; kept = come.kept; is = tt }

  -- A gap and then a keyword.
  piece_comes : {phrases : List Phrase} {spots : List Spot} {more : List ℕ} (spot : Spot) → PieceWithin spot.piece → length spots < room_for_pieces
      → ((offset : ℕ) → drop offset bytes ≡ more → not (gap_at bytes offset) ≡ spot.last)
      → Come bytes before spots phrases (written_gap spot.piece.gap ++ (written_keyword spot.piece.keyword ++ more)) (InPhrase spot.rank (none_left spot.before))
      → Come bytes before (spots ++ spot ∷ []) phrases more (InPhrase spot.rank (none_left (spot.before ++ spot.piece ∷ [])))
  piece_comes spot within room last come =
      rw (not_left spot.before spot.piece) (keyword_step bytes before whole spot within room last (gap_step bytes before spot.piece.gap come))

  -- The pieces that come after some of a phrase are entered as their spots.
  pieces_come : (phrases : List Phrase) (rest : List ℕ) (rank : ℕ) (pieces past : List Piece) (spots : List Spot) → NoGap bytes rest → All PieceWithin pieces
      → length spots + length pieces ≤ room_for_pieces → Come bytes before spots phrases (written_pieces pieces ++ rest) (InPhrase rank (none_left past))
      → Come bytes before (spots ++ spots_after rank past pieces) phrases rest Anywhere
  unfolding written_pieces spots_after All
  pieces_come phrases rest rank [] past spots none within room come = rw append-nil (anywhere come)
  pieces_come phrases rest rank (piece ∷ pieces) past spots none within room come =
      subst (λ (all : List Spot). Come bytes before all phrases rest Anywhere) (append_snoc spots spot (spots_after rank (past ++ piece ∷ []) pieces))
      (pieces_come phrases rest rank pieces (past ++ piece ∷ []) (spots ++ spot ∷ []) none within.1 (omega (arith, length_further spots spot))
      (piece_comes spot within.0 (omega arith) (follows bytes pieces rest none)
      (subst (λ (here : List ℕ). Come bytes before spots phrases here (InPhrase rank (none_left past))) regroup come)))
    where
      spot : Spot
      spot = record { before = past; piece = piece; last = none_left pieces; rank = rank }

      regroup : (written_gap piece.gap ++ (written_keyword piece.keyword ++ written_pieces pieces)) ++ rest ≡ written_gap piece.gap ++ (written_keyword piece.keyword ++ (written_pieces pieces ++ rest))
      regroup = simp append_assoc

  -- ── The phrases of a book ──

  -- The phrases that come after some of a book are entered, and their pieces as their spots.
  pub phrases_come : (count : ℕ) (phrases past : List Phrase) (spots : List Spot) → All PhraseWithin phrases
      → length past + length phrases ≤ room_for_phrases → length spots + piece_count phrases ≤ room_for_pieces
      → Come bytes before spots past (written_phrases phrases ++ written_end count) Anywhere
      → Come bytes before (spots ++ spots_from (length past) phrases) (past ++ phrases) (written_end count) Anywhere
  unfolding written_phrases spots_from All piece_count none_left
  phrases_come count [] past spots within few room come = rw (append-nil spots, append-nil past) come
  phrases_come count (phrase ∷ phrases) past spots within few room come =
      subst (λ (all : List Phrase). Come bytes before (spots ++ (own ++ spots_from (length past + 1) phrases)) all (written_end count) Anywhere) (append_snoc past phrase phrases)
      (subst (λ (all : List Spot). Come bytes before all ((past ++ phrase ∷ []) ++ phrases) (written_end count) Anywhere) gathered
      (phrases_come count phrases (past ++ phrase ∷ []) (spots ++ own) within.1 (omega (arith, length_further past phrase))
      (omega (arith, length-append spots own, length_after (length past) [] phrase.pieces))
      (pieces_come (past ++ phrase ∷ []) rest (length past) phrase.pieces [] spots (phrases_no_gap bytes phrases count) within.0.so_far.pieces (omega arith)
      (name_step bytes before whole phrase (omega (arith, within.0.so_far.number.1)) (omega arith)
      (subst (λ (here : List ℕ). Come bytes before spots past here Anywhere) regroup come)))))
    where
      own : List Spot
      own = spots_after (length past) [] phrase.pieces

      rest : List ℕ
      rest = written_phrases phrases ++ written_end count

      gathered : (spots ++ own) ++ spots_from (length (past ++ phrase ∷ [])) phrases ≡ spots ++ (own ++ spots_from (length past + 1) phrases)
      gathered = rw (length_further past phrase) (append_assoc spots own (spots_from (length past + 1) phrases))

      regroup : (written_name phrase ++ (written_pieces phrase.pieces ++ written_phrases phrases)) ++ written_end count ≡ written_name phrase ++ (written_pieces phrase.pieces ++ (written_phrases phrases ++ written_end count))
      regroup = simp append_assoc
