-- How a book is written, by document 01's table: one byte of kind, then a body whose length the kind fixes.
-- Assumes nothing: these are definitions.
use Rattle.std.specs.Prelude.{List, [], ◌∷◌, ◌++◌, ℕ, ◌+◌, ◌/◌, ◌%◌, length}
use Rattle.meaning.specs.Books.{Gap, bounded, open_from, Piece, Phrase, Book}
use Rattle.format.specs.Limits.{the_edition}

-- ── The kinds ──

abbrev pub header_kind : ℕ
header_kind = 0x01

abbrev pub phrase_kind : ℕ
phrase_kind = 0x02

abbrev pub bounded_kind : ℕ
bounded_kind = 0x03

abbrev pub open_kind : ℕ
open_kind = 0x04

abbrev pub end_kind : ℕ
end_kind = 0x7f

-- The kind of a keyword is 80 hex and its length.
abbrev pub keyword_base : ℕ
keyword_base = 0x80

-- ── The records ──

-- Numbers of two bytes have the high byte first.
unfoldable pub two_bytes : ℕ → List ℕ
two_bytes n = n / 256 ∷ n % 256 ∷ []

unfoldable pub written_header : List ℕ
written_header = header_kind ∷ the_edition ∷ []

unfoldable pub written_name : Phrase → List ℕ
unfolding two_bytes
written_name phrase = phrase_kind ∷ (two_bytes phrase.number ++ phrase.rights ∷ [])

unfoldable pub written_gap : Gap → List ℕ
unfolding two_bytes
written_gap (bounded least most) = bounded_kind ∷ (two_bytes least ++ two_bytes most)
written_gap (open_from least) = open_kind ∷ two_bytes least

unfoldable pub written_keyword : List ℕ → List ℕ
written_keyword keyword = (keyword_base + length keyword) ∷ keyword

unfoldable pub written_end : ℕ → List ℕ
unfolding two_bytes
written_end phrases = end_kind ∷ two_bytes phrases

-- ── The order of the records ──

-- A piece is a gap and then a keyword.
unfoldable pub written_pieces : List Piece → List ℕ
unfolding written_gap written_keyword
written_pieces [] = []
written_pieces (piece ∷ rest) = written_gap piece.gap ++ (written_keyword piece.keyword ++ written_pieces rest)

-- A phrase is a phrase record followed by its pieces.
unfoldable pub written_phrases : List Phrase → List ℕ
unfolding written_name written_pieces
written_phrases [] = []
written_phrases (phrase ∷ rest) = written_name phrase ++ (written_pieces phrase.pieces ++ written_phrases rest)

-- One header, the phrases, the end record with their number, and nothing after it.
unfoldable pub written : Book → List ℕ
unfolding written_header written_phrases written_end
written book = written_header ++ (written_phrases book.phrases ++ written_end (length book.phrases))
