-- A number of two bytes is written as it is read, and records behind others are written behind them, so that what is written can be
-- taken apart at any record. Assumes nothing.
use mathlib.Core.Path.{◌≡◌, refl, ap, ◌∙◌}
use mathlib.Core.List.{List, [], ◌∷◌, ◌++◌, append_assoc, append-nil}
use Prim.Native.Nat.{ℕ, zero, suc, ◌+◌, ◌*◌, ◌/◌, ◌%◌, ◌<◌}
use native.Mathlib.Omega.{arith}
use lib.ListN.{length, get_or}
use Rattle.meaning.specs.Books.{Piece, Phrase}
use Rattle.format.specs.Limits.{All, Bytes}
use Rattle.format.specs.Written.{two_bytes, written_name, written_gap, written_keyword, written_pieces, written_phrases}
use Rattle.format.specs.Faults.{two}
use Rattle.format.specs.Judged.{with_piece}

-- ── Bytes of a body ──

-- Each of some bytes is below 256.
pub byte_at : (bytes : List ℕ) (i : ℕ) → Bytes bytes → get_or bytes i 0 < 256
unfolding All
byte_at [] zero h = omega arith
byte_at [] (suc i) h = omega arith
byte_at (x ∷ bytes) zero h = h.0
byte_at (x ∷ bytes) (suc i) h = byte_at bytes i h.1

-- So many bytes, from the i-th on.
unfoldable pub cells : ℕ → List ℕ → ℕ → List ℕ
cells zero bytes i = []
cells (suc n) bytes i = get_or bytes i 0 ∷ cells n bytes (suc i)

cells_tail : (n x : ℕ) (bytes : List ℕ) (i : ℕ) → cells n (x ∷ bytes) (suc i) ≡ cells n bytes i
unfolding cells
cells_tail zero x bytes i = refl
cells_tail (suc n) x bytes i = rw (cells_tail n x bytes (suc i))

-- Bytes of a known number are the first, the second and so on.
pub one_by_one : (n : ℕ) (bytes : List ℕ) → length bytes ≡ n → bytes ≡ cells n bytes 0
unfolding cells
one_by_one zero [] h = refl
one_by_one zero (x ∷ bytes) h = absurd (omega arith)
one_by_one (suc n) [] h = absurd (omega arith)
one_by_one (suc n) (x ∷ bytes) h = rw (cells_tail n x bytes 0, ← one_by_one n bytes (omega arith))

-- ── Numbers of two bytes ──

-- A number that was read from two bytes is written as they are,
pub two_written : (bytes : List ℕ) (i : ℕ) → Bytes bytes → two_bytes (two bytes i) ≡ get_or bytes i 0 ∷ get_or bytes (i + 1) 0 ∷ []
unfolding two_bytes two
two_written bytes i h = go (get_or bytes i 0) (get_or bytes (i + 1) 0) (byte_at bytes i h) (byte_at bytes (i + 1) h)
  where
    go : (high low : ℕ) → high < 256 → low < 256 → (high * 256 + low) / 256 ∷ (high * 256 + low) % 256 ∷ [] ≡ high ∷ low ∷ []
    go high low h k =
        let p : (high * 256 + low) / 256 ≡ high = omega arith in
        let q : (high * 256 + low) % 256 ≡ low = omega arith in
        rw (p, q)

-- and a number that is written is read again.
pub two_read : (n : ℕ) → n / 256 * 256 + n % 256 ≡ n
two_read n = omega arith

-- ── Records behind others ──

-- Pieces behind pieces are written behind them,
pub pieces_append : (xs ys : List Piece) → written_pieces (xs ++ ys) ≡ written_pieces xs ++ written_pieces ys
unfolding written_pieces
pieces_append [] ys = refl
pieces_append (piece ∷ xs) ys = rw (pieces_append xs ys) (simp append_assoc)

-- and so are phrases,
pub phrases_append : (xs ys : List Phrase) → written_phrases (xs ++ ys) ≡ written_phrases xs ++ written_phrases ys
unfolding written_phrases
phrases_append [] ys = refl
phrases_append (phrase ∷ xs) ys = rw (phrases_append xs ys) (simp append_assoc)

-- a further one by its record and its pieces.
pub phrases_further : (phrases : List Phrase) (phrase : Phrase)
    → written_phrases (phrases ++ phrase ∷ []) ≡ written_phrases phrases ++ (written_name phrase ++ written_pieces phrase.pieces)
unfolding written_phrases
phrases_further phrases phrase = phrases_append phrases (phrase ∷ []) ∙ simp append-nil

-- A phrase with a further piece is the phrase and then the piece.
pub piece_further : (phrases : List Phrase) (phrase : Phrase) (piece : Piece)
    → written_phrases (phrases ++ with_piece phrase piece ∷ [])
    ≡ (written_phrases phrases ++ (written_name phrase ++ (written_pieces phrase.pieces ++ written_gap piece.gap))) ++ written_keyword piece.keyword
piece_further phrases phrase piece = rw (phrases_further phrases (with_piece phrase piece), name_same, one_more) (simp append_assoc)
  where
    name_same : written_name (with_piece phrase piece) ≡ written_name phrase
    name_same = unfold with_piece written_name in refl

    one_more : written_pieces (with_piece phrase piece).pieces ≡ written_pieces phrase.pieces ++ (written_gap piece.gap ++ written_keyword piece.keyword)
    one_more = unfold with_piece written_pieces in (
        pieces_append phrase.pieces (piece ∷ [])
        ∙ ap (λ (l : List ℕ). written_pieces phrase.pieces ++ (written_gap piece.gap ++ l)) (append-nil (written_keyword piece.keyword))
        )
