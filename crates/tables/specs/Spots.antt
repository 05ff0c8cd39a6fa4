-- The pieces of a book in their order, each with where it stands in its phrase. Assumes nothing: these are definitions.
use Rattle.std.specs.Prelude.{◌≡◌, Bool, true, false, ℕ, ◌+◌, ◌<◌, length, get_or}
use mathlib.Core.List.{List, [], ◌∷◌, ◌++◌, Memᴰ}
use Rattle.meaning.specs.Books.{open_from, Piece, Phrase, Book, keywords}
use Rattle.meaning.specs.Windows.{delay}
use Rattle.format.specs.Limits.{Between, PieceWithin}

-- A piece in its phrase: the pieces before it, itself, whether it is the last, and the rank of the phrase in the book.
pub record Spot : Type 0 where
  pub before : List Piece
  pub piece : Piece
  pub last : Bool
  pub rank : ℕ

-- No piece is left.
unfoldable pub none_left : List Piece → Bool
none_left [] = true
none_left (piece ∷ rest) = false

-- The spots of the pieces that come after some pieces of a phrase.
unfoldable pub spots_after : ℕ → List Piece → List Piece → List Spot
unfolding none_left
spots_after rank before [] = []
spots_after rank before (piece ∷ rest) =
    record { before = before; piece = piece; last = none_left rest; rank = rank } ∷ spots_after rank (before ++ piece ∷ []) rest

-- The spots of phrases, the first of which has this rank.
unfoldable pub spots_from : ℕ → List Phrase → List Spot
unfolding spots_after
spots_from rank [] = []
spots_from rank (phrase ∷ rest) = spots_after rank [] phrase.pieces ++ spots_from (rank + 1) rest

unfoldable pub spots_of : Book → List Spot
unfolding spots_from
spots_of book = spots_from 0 book.phrases

-- What stands for a spot that the book does not have.
abbrev pub no_spot : Spot
no_spot = record { before = []; piece = record { gap = open_from 0; keyword = [] }; last = false; rank = 0 }

-- The spot of piece p of the book.
unfoldable pub spot_at : Book → ℕ → Spot
unfolding spots_of
spot_at book p = get_or (spots_of book) p no_spot

unfoldable pub spot_count : Book → ℕ
unfolding spots_of
spot_count book = length (spots_of book)

-- What stands for a phrase that the book does not have.
abbrev pub no_phrase : Phrase
no_phrase = record { number = 0; rights = 0; pieces = [] }

-- ── How the spots stand ──

-- The spots of a book stand in its order, piece by piece and phrase by phrase.
pub record Placed (book : Book) : Type 0 where
  -- The book begins with the first piece of a phrase, and so does what follows a last piece.
  pub start : (spot_at book 0).before ≡ []
  pub fresh : (p : ℕ) → p + 1 < spot_count book → (spot_at book p).last ≡ true → (spot_at book (p + 1)).before ≡ []
  -- A piece that is not the last is followed by the next one of its phrase.
  pub chain : (p : ℕ) → p < spot_count book → (spot_at book p).last ≡ false
      → (p + 1 < spot_count book) × ((spot_at book (p + 1)).before ≡ (spot_at book p).before ++ (spot_at book p).piece ∷ [])
  -- Each piece is within the limits, ends 1 to 256 bytes after the one before it at the earliest, and has its keyword from the book.
  pub within : (p : ℕ) → p < spot_count book → PieceWithin (spot_at book p).piece
  pub soon : (p : ℕ) → p < spot_count book → Between 1 256 (delay (spot_at book p).piece)
  pub listed : (p : ℕ) → p < spot_count book → Memᴰ (spot_at book p).piece.keyword (keywords book.phrases)
  -- With the pieces before it, the last one makes up the phrase of its rank.
  pub ranked : (p : ℕ) → p < spot_count book → (spot_at book p).rank < length book.phrases
  pub whole : (p : ℕ) → p < spot_count book → (spot_at book p).last ≡ true
      → (spot_at book p).before ++ (spot_at book p).piece ∷ [] ≡ (get_or book.phrases (spot_at book p).rank no_phrase).pieces
  -- Each phrase has its last piece.
  pub final : (j : ℕ) → j < length book.phrases → (p : ℕ) × (p < spot_count book) × ((spot_at book p).last ≡ true) × ((spot_at book p).rank ≡ j)
