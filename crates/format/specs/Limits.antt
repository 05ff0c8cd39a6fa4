-- The ranges and limits of document 01, and what it is for a book to be within them. Assumes nothing: these are definitions.
use Rattle.std.specs.Prelude.{List, [], ◌∷◌, ℕ, ◌+◌, ◌≤◌, ◌<◌, length}
use Rattle.meaning.specs.Books.{Gap, bounded, open_from, Piece, Phrase, Book, keywords}
use Rattle.format.specs.Prefixes.{prefix_count}

-- Edition 1 is the only one.
abbrev pub the_edition : ℕ
the_edition = 1

abbrev pub most_number : ℕ
most_number = 65535

abbrev pub most_rights : ℕ
most_rights = 12

abbrev pub most_least : ℕ
most_least = 224

abbrev pub most_most : ℕ
most_most = 60000

abbrev pub longest_keyword : ℕ
longest_keyword = 32

abbrev pub most_phrases : ℕ
most_phrases = 128

abbrev pub most_pieces_of_phrase : ℕ
most_pieces_of_phrase = 8

abbrev pub most_pieces : ℕ
most_pieces = 256

abbrev pub most_prefixes : ℕ
most_prefixes = 2047

-- No accepted book is longer than so many bytes: that follows from the limits and is no limit of its own.
abbrev pub longest_book : ℕ
longest_book = 10245

-- ── Within the limits ──

-- A property holds of each element.
unfoldable pub All : {A : Type 0} → (A → Type 0) → List A → Type 0
All P [] = Unit {0}
All P (x ∷ xs) = P x × All P xs

-- Bytes are below 256.
abbrev pub Bytes : List ℕ → Type 0
Bytes bytes = All (λ x. x < 256) bytes

abbrev pub Between : ℕ → ℕ → ℕ → Type 0
Between low high n = (low ≤ n) × (n ≤ high)

-- Least 0 to 224, most 0 to 60,000, and least not above most.
unfoldable pub GapWithin : Gap → Type 0
GapWithin (bounded least most) = (least ≤ most_least) × (most ≤ most_most) × (least ≤ most)
GapWithin (open_from least) = least ≤ most_least

-- A keyword has 1 to 32 bytes.
pub record PieceWithin (piece : Piece) : Type 0 where
  pub gap : GapWithin piece.gap
  pub long : Between 1 longest_keyword (length piece.keyword)
  pub bytes : Bytes piece.keyword

-- What a phrase's own record says is in range, and so are its pieces, of which there are at most 8.
pub record PhraseSoFar (phrase : Phrase) : Type 0 where
  pub number : Between 1 most_number phrase.number
  pub rights : Between 1 most_rights phrase.rights
  pub pieces : All PieceWithin phrase.pieces
  pub count : length phrase.pieces ≤ most_pieces_of_phrase

-- A whole phrase has a piece at least.
pub record PhraseWithin (phrase : Phrase) : Type 0 where
  pub so_far : PhraseSoFar phrase
  pub pieced : 1 ≤ length phrase.pieces

-- Each phrase number is above the one before it.
unfoldable pub Ascend : ℕ → List Phrase → Type 0
Ascend before [] = Unit {0}
Ascend before (phrase ∷ rest) = (before < phrase.number) × Ascend phrase.number rest

-- How many pieces some phrases have.
unfoldable pub piece_count : List Phrase → ℕ
piece_count [] = 0
piece_count (phrase ∷ rest) = length phrase.pieces + piece_count rest

-- What is counted over the phrases of a book: their numbers ascend, and there are not too many of anything.
pub record CountsWithin (phrases : List Phrase) : Type 0 where
  pub ascend : Ascend 0 phrases
  pub count : length phrases ≤ most_phrases
  pub pieces : piece_count phrases ≤ most_pieces
  pub prefixes : prefix_count (keywords phrases) ≤ most_prefixes

-- A book within the limits has one phrase or more.
pub record Within (book : Book) : Type 0 where
  pub each : All PhraseWithin book.phrases
  pub counts : CountsWithin book.phrases
  pub some : 1 ≤ length book.phrases
