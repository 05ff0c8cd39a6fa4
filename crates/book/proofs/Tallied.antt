-- What judge counts goes up with each record as the phrases, pieces and keywords of the stage do. Assumes nothing.
use mathlib.Core.Path.{◌≡◌, refl, sym, ◌∙◌}
use mathlib.Core.List.{List, [], ◌∷◌, ◌++◌}
use Prim.Native.Nat.{ℕ, ◌+◌}
use native.Mathlib.Omega.{arith}
use lib.ListN.{length}
use Rattle.meaning.specs.Books.{Gap, Piece, Phrase, keywords}
use Rattle.format.specs.Prefixes.{prefix_count}
use Rattle.format.specs.Limits.{piece_count}
use Rattle.format.specs.Stages.{Stage, start, headed, named, gapped, worded, ended, phrases_at, pieces_at, SoFar}
use Rattle.format.specs.Faults.{last_number, allowed, two}
use Rattle.format.specs.Judged.{phrase_of, with_piece}
use Rattle.format.proofs.Lists.{length_further}
use Rattle.format.proofs.Counted.{count_pieces, keywords_named, keywords_further}
use Rattle.counters.specs.Counters.{number_of}
use Rattle.book.specs.Judging.{Small, allowed_of}
use Rattle.book.specs.Tallies.{name_of, tally_of}

-- ── Stages ──

pub allowed_name : (stage : Stage) (k : ℕ) → allowed_of (name_of stage) k ≡ allowed stage k
unfolding allowed_of name_of allowed
allowed_name start k = refl
allowed_name headed k = refl
allowed_name (named phrases phrase) k = refl
allowed_name (gapped phrases phrase gap) k = refl
allowed_name (worded phrases phrase) k = refl
allowed_name (ended phrases) k = refl

-- ── Counts ──

last_further : (phrases : List Phrase) (phrase : Phrase) → last_number (phrases ++ phrase ∷ []) ≡ phrase.number
unfolding last_number
last_further [] phrase = refl
last_further (first ∷ []) phrase = refl
last_further (first ∷ second ∷ rest) phrase = last_further (second ∷ rest) phrase

-- Nothing is counted before the header.
pub start_tally : record { phrases = 0; last = number_of 0; own = 0; pieces = 0; prefixes = 0 } ≡ tally_of start
unfolding tally_of phrases_at pieces_at last_number piece_count keywords prefix_count
start_tally = refl

-- A further phrase, which has no pieces yet.
pub named_tally : (phrases : List Phrase) (body : List ℕ)
    → record { phrases = length phrases + 1; last = number_of (two body 0); own = 0; pieces = piece_count phrases; prefixes = prefix_count (keywords phrases) }
    ≡ tally_of (named phrases (phrase_of body))
unfolding tally_of phrases_at pieces_at phrase_of
named_tally phrases body =
    let pieces : piece_count (phrases ++ phrase_of body ∷ []) ≡ piece_count phrases = omega (arith, count_pieces phrases (phrase_of body)) in
    rw (length_further phrases (phrase_of body), last_further phrases (phrase_of body), pieces, keywords_named phrases (phrase_of body) refl)

-- A further piece of the last phrase, with its keyword.
pub worded_tally : (phrases : List Phrase) (phrase : Phrase) (gap : Gap) (body : List ℕ)
    → record {
      phrases = length (phrases ++ phrase ∷ []);
      last = number_of (last_number (phrases ++ phrase ∷ []));
      own = length phrase.pieces + 1;
      pieces = piece_count (phrases ++ phrase ∷ []) + 1;
      prefixes = prefix_count (keywords (phrases ++ phrase ∷ []) ++ body ∷ []);
    } ≡ tally_of (worded phrases (with_piece phrase (record { gap = gap; keyword = body })))
unfolding tally_of phrases_at pieces_at with_piece
worded_tally phrases phrase gap body =
    let piece : Piece = record { gap = gap; keyword = body } in
    let further : Phrase = with_piece phrase piece in
    let own : length further.pieces ≡ length phrase.pieces + 1 = length_further phrase.pieces piece in
    let pieces : piece_count (phrases ++ further ∷ []) ≡ piece_count (phrases ++ phrase ∷ []) + 1 = omega (arith, count_pieces phrases further, count_pieces phrases phrase) in
    let count : length (phrases ++ further ∷ []) ≡ length (phrases ++ phrase ∷ []) = length_further phrases further ∙ sym (length_further phrases phrase) in
    let last : last_number (phrases ++ further ∷ []) ≡ last_number (phrases ++ phrase ∷ []) = last_further phrases further ∙ sym (last_further phrases phrase) in
    rw (count, last, own, pieces, keywords_further phrases phrase piece)

-- ── Limits ──

pub tally_small : (stage : Stage) → SoFar stage → Small (tally_of stage)
unfolding tally_of phrases_at pieces_at SoFar piece_count prefix_count keywords
tally_small start s = record { phrases = omega arith; own = omega arith; pieces = omega arith; prefixes = omega arith }
tally_small headed s = record { phrases = omega arith; own = omega arith; pieces = omega arith; prefixes = omega arith }
tally_small (named phrases phrase) s = record { phrases = s.3.count; own = s.1.count; pieces = s.3.pieces; prefixes = s.3.prefixes }
tally_small (gapped phrases phrase gap) s = record { phrases = s.2.count; own = s.1.count; pieces = s.2.pieces; prefixes = s.2.prefixes }
tally_small (worded phrases phrase) s = record { phrases = s.2.count; own = s.1.so_far.count; pieces = s.2.pieces; prefixes = s.2.prefixes }
tally_small (ended phrases) s = record { phrases = s.1.count; own = omega arith; pieces = s.1.pieces; prefixes = s.1.prefixes }
