-- What is counted over some phrases goes up with a further phrase or piece, by as much as that has, and so is within the limits
-- after it exactly when it was before and one more is. Assumes nothing.
use mathlib.Core.Path.{◌≡◌, refl, sym, ap, ◌∙◌}
use mathlib.Core.List.{List, [], ◌∷◌, ◌++◌, map, append_assoc, append-nil, map-append}
use Prim.Native.Nat.{ℕ, ◌+◌, ◌≤◌, ◌<◌}
use native.Mathlib.Omega.{arith}
use lib.ListN.{length}
use Rattle.meaning.specs.Books.{Piece, Phrase, keywords}
use Rattle.format.specs.Prefixes.{prefix_count}
use Rattle.format.specs.Limits.{Ascend, piece_count, CountsWithin, most_phrases, most_pieces, most_prefixes}
use Rattle.format.specs.Faults.{last_number}
use Rattle.format.specs.Judged.{with_piece}
use Rattle.format.proofs.Lists.{length_further}
use Rattle.format.proofs.Prefixes.{count_grows}

-- ── Ascending numbers ──

ascend_left : (before : ℕ) (xs ys : List Phrase) → Ascend before (xs ++ ys) → Ascend before xs
unfolding Ascend
ascend_left before [] ys h = tt
ascend_left before (x ∷ xs) ys h = (h.0, ascend_left x.number xs ys h.1)

-- A last phrase has the place of another with the same number.
ascend_same : (before : ℕ) (phrases : List Phrase) (p q : Phrase) → p.number ≡ q.number
    → Ascend before (phrases ++ p ∷ []) → Ascend before (phrases ++ q ∷ [])
unfolding Ascend
ascend_same before [] p q e h = (rw e at h.0, tt)
ascend_same before (x ∷ phrases) p q e h = (h.0, ascend_same x.number phrases p q e h.1)

module _ (phrase : Phrase) where
  ascend_behind : (before : ℕ) (x : Phrase) (xs : List Phrase) → Ascend before (x ∷ xs) → last_number (x ∷ xs) < phrase.number
      → Ascend before (x ∷ xs ++ phrase ∷ [])
  unfolding Ascend last_number
  ascend_behind before x [] h l = (h.0, (l, tt))
  ascend_behind before x (y ∷ xs) h l = (h.0, ascend_behind x.number y xs h.1 l)

  behind_above : (before : ℕ) (x : Phrase) (xs : List Phrase) → Ascend before (x ∷ xs ++ phrase ∷ []) → last_number (x ∷ xs) < phrase.number
  unfolding Ascend last_number
  behind_above before x [] h = h.1.0
  behind_above before x (y ∷ xs) h = behind_above x.number y xs h.1

  -- A further phrase leaves the numbers ascending if its number is above the last,
  pub ascend_further : (phrases : List Phrase) → Ascend 0 phrases → last_number phrases < phrase.number → Ascend 0 (phrases ++ phrase ∷ [])
  unfolding Ascend last_number
  ascend_further [] h l = (l, tt)
  ascend_further (x ∷ xs) h l = ascend_behind 0 x xs h l

  -- and only then.
  pub further_above : (phrases : List Phrase) → Ascend 0 (phrases ++ phrase ∷ []) → last_number phrases < phrase.number
  unfolding Ascend last_number
  further_above [] h = h.0
  further_above (x ∷ xs) h = behind_above 0 x xs h

-- ── Pieces and keywords ──

-- A further phrase brings its pieces,
pub count_pieces : (phrases : List Phrase) (phrase : Phrase) → piece_count (phrases ++ phrase ∷ []) ≡ piece_count phrases + length phrase.pieces
unfolding piece_count
count_pieces [] phrase = omega arith
count_pieces (x ∷ phrases) phrase = rw (count_pieces phrases phrase) (omega arith)

-- and its keywords, behind the others.
pub keywords_append : (xs ys : List Phrase) → keywords (xs ++ ys) ≡ keywords xs ++ keywords ys
unfolding keywords
keywords_append [] ys = refl
keywords_append (x ∷ xs) ys = rw (keywords_append xs ys) (simp append_assoc)

-- The keywords of some pieces.
abbrev pub keywords_of : List Piece → List (List ℕ)
keywords_of pieces = map (λ (piece : Piece). piece.keyword) pieces

keywords_last : (phrases : List Phrase) (phrase : Phrase) → keywords (phrases ++ phrase ∷ []) ≡ keywords phrases ++ keywords_of phrase.pieces
unfolding keywords
keywords_last phrases phrase =
    keywords_append phrases (phrase ∷ []) ∙ ap (λ (l : List (List ℕ)). keywords phrases ++ l) (append-nil (keywords_of phrase.pieces))

-- A phrase without pieces brings no keyword.
pub keywords_named : (phrases : List Phrase) (phrase : Phrase) → phrase.pieces ≡ [] → keywords (phrases ++ phrase ∷ []) ≡ keywords phrases
keywords_named phrases phrase e = keywords_last phrases phrase ∙ ap (λ (l : List Piece). keywords phrases ++ keywords_of l) e ∙ append-nil (keywords phrases)

-- A further piece puts its keyword behind the others.
pub keywords_further : (phrases : List Phrase) (phrase : Phrase) (piece : Piece)
    → keywords (phrases ++ with_piece phrase piece ∷ []) ≡ keywords (phrases ++ phrase ∷ []) ++ piece.keyword ∷ []
unfolding with_piece
keywords_further phrases phrase piece =
    keywords_last phrases (with_piece phrase piece)
    ∙ ap (λ (l : List (List ℕ)). keywords phrases ++ l) (map-append (λ (piece : Piece). piece.keyword) phrase.pieces (piece ∷ []))
    ∙ sym (append_assoc (keywords phrases) (keywords_of phrase.pieces) (keywords_of (piece ∷ [])))
    ∙ ap (λ (l : List (List ℕ)). l ++ keywords_of (piece ∷ [])) (sym (keywords_last phrases phrase))

-- ── All that is counted ──

-- Keywords that have not too many prefixes with others have not too many alone.
count_within_more : (ws vs : List (List ℕ)) → prefix_count (ws ++ vs) ≤ most_prefixes → prefix_count ws ≤ most_prefixes
count_within_more ws vs h = omega (arith, count_grows ws vs)

-- No phrases are within the limits.
pub counts_none : CountsWithin []
unfolding Ascend piece_count keywords prefix_count
counts_none = record { ascend = tt; count = omega arith; pieces = omega arith; prefixes = omega arith }

module _ (phrases : List Phrase) (phrase : Phrase) where
  -- A phrase record, whose phrase has no pieces yet, leaves the counts within the limits.
  pub counts_named : phrase.pieces ≡ [] → CountsWithin phrases → last_number phrases < phrase.number → length phrases < most_phrases
      → CountsWithin (phrases ++ phrase ∷ [])
  counts_named none counts above room = record {
    ascend = ascend_further phrase phrases counts.ascend above;
    count = omega (arith, length_further phrases phrase);
    pieces = omega (arith, count_pieces phrases phrase, ap length none, counts.pieces);
    prefixes = rw (keywords_named phrases phrase none) counts.prefixes;
  }

  -- Without their last phrase they are too.
  pub counts_without : CountsWithin (phrases ++ phrase ∷ []) → CountsWithin phrases
  counts_without counts = record {
    ascend = ascend_left 0 phrases (phrase ∷ []) counts.ascend;
    count = omega (arith, length_further phrases phrase, counts.count);
    pieces = omega (arith, count_pieces phrases phrase, counts.pieces);
    prefixes = count_within_more (keywords phrases) (keywords (phrase ∷ [])) (rw (keywords_append phrases (phrase ∷ [])) at counts.prefixes);
  }

  module _ (piece : Piece) where
    piece_more : piece_count (phrases ++ with_piece phrase piece ∷ []) ≡ piece_count (phrases ++ phrase ∷ []) + 1
    unfolding with_piece
    piece_more = omega (arith, count_pieces phrases phrase, count_pieces phrases (with_piece phrase piece), length_further phrase.pieces piece)

    -- A further piece leaves them there if there is room for it and its keyword brings not too many prefixes.
    pub counts_piece : CountsWithin (phrases ++ phrase ∷ []) → piece_count (phrases ++ phrase ∷ []) + 1 ≤ most_pieces
        → prefix_count (keywords (phrases ++ phrase ∷ []) ++ piece.keyword ∷ []) ≤ most_prefixes → CountsWithin (phrases ++ with_piece phrase piece ∷ [])
    unfolding with_piece
    counts_piece counts room few = record {
      ascend = ascend_same 0 phrases phrase (with_piece phrase piece) refl counts.ascend;
      count = omega (arith, length_further phrases phrase, length_further phrases (with_piece phrase piece), counts.count);
      pieces = omega (arith, piece_more);
      prefixes = rw (keywords_further phrases phrase piece) few;
    }

    -- Without that piece they are there too,
    pub counts_before : CountsWithin (phrases ++ with_piece phrase piece ∷ []) → CountsWithin (phrases ++ phrase ∷ [])
    unfolding with_piece
    counts_before counts = record {
      ascend = ascend_same 0 phrases (with_piece phrase piece) phrase refl counts.ascend;
      count = omega (arith, length_further phrases phrase, length_further phrases (with_piece phrase piece), counts.count);
      pieces = omega (arith, piece_more, counts.pieces);
      prefixes = count_within_more (keywords (phrases ++ phrase ∷ [])) (piece.keyword ∷ []) (rw (keywords_further phrases phrase piece) at counts.prefixes);
    }

    -- there was room for it,
    pub room_before : CountsWithin (phrases ++ with_piece phrase piece ∷ []) → piece_count (phrases ++ phrase ∷ []) + 1 ≤ most_pieces
    room_before counts = omega (arith, piece_more, counts.pieces)

    -- and its keyword did not bring too many prefixes.
    pub few_before : CountsWithin (phrases ++ with_piece phrase piece ∷ [])
        → prefix_count (keywords (phrases ++ phrase ∷ []) ++ piece.keyword ∷ []) ≤ most_prefixes
    few_before counts = rw (keywords_further phrases phrase piece) at counts.prefixes
