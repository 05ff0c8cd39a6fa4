-- How far a book has been read when a record begins: what stands before that record. Assumes nothing: these are definitions.
use Rattle.std.specs.Prelude.{◌≡◌, List, [], ◌∷◌, ◌++◌, ℕ, ◌+◌, ◌≤◌, length}
use Rattle.meaning.specs.Books.{Gap, Piece, Phrase, Book}
use Rattle.format.specs.Limits.{All, GapWithin, PhraseSoFar, PhraseWithin, CountsWithin, Within, piece_count, most_pieces_of_phrase, most_pieces}
use Rattle.format.specs.Written.{written_header, written_phrases, written_name, written_pieces, written_gap, written}

pub data Stage : Type 0 where
  -- nothing
  start : Stage
  -- the header
  headed : Stage
  -- whole phrases, and a phrase record
  named : List Phrase → Phrase → Stage
  -- whole phrases, a phrase so far, and the gap of its next piece
  gapped : List Phrase → Phrase → Gap → Stage
  -- whole phrases, and a phrase that ends here or has a further piece
  worded : List Phrase → Phrase → Stage
  -- the end record
  ended : List Phrase → Stage

-- The phrases read so far, the last one perhaps not whole.
unfoldable pub phrases_at : Stage → List Phrase
phrases_at start = []
phrases_at headed = []
phrases_at (named phrases phrase) = phrases ++ phrase ∷ []
phrases_at (gapped phrases phrase gap) = phrases ++ phrase ∷ []
phrases_at (worded phrases phrase) = phrases ++ phrase ∷ []
phrases_at (ended phrases) = phrases

-- The pieces of the phrase that is being read.
unfoldable pub pieces_at : Stage → List Piece
pieces_at start = []
pieces_at headed = []
pieces_at (named phrases phrase) = phrase.pieces
pieces_at (gapped phrases phrase gap) = phrase.pieces
pieces_at (worded phrases phrase) = phrase.pieces
pieces_at (ended phrases) = []

-- The bytes that stand before the record.
unfoldable pub written_to : Stage → List ℕ
unfolding written_header written_phrases written_name written_pieces written_gap written
written_to start = []
written_to headed = written_header
written_to (named phrases phrase) = written_header ++ (written_phrases phrases ++ written_name phrase)
written_to (gapped phrases phrase gap) = written_header ++ (written_phrases phrases ++ (written_name phrase ++ (written_pieces phrase.pieces ++ written_gap gap)))
written_to (worded phrases phrase) = written_header ++ written_phrases (phrases ++ phrase ∷ [])
written_to (ended phrases) = written (record { phrases = phrases })

-- What stands before the record is within the limits, as far as it goes. A gap counts as the first record of its piece.
unfoldable pub SoFar : Stage → Type 0
SoFar start = Unit {0}
SoFar headed = Unit {0}
SoFar (named phrases phrase) = All PhraseWithin phrases × PhraseSoFar phrase × (phrase.pieces ≡ []) × CountsWithin (phrases ++ phrase ∷ [])
SoFar (gapped phrases phrase gap) =
    All PhraseWithin phrases × PhraseSoFar phrase × CountsWithin (phrases ++ phrase ∷ []) × GapWithin gap
    × (length phrase.pieces + 1 ≤ most_pieces_of_phrase) × (piece_count (phrases ++ phrase ∷ []) + 1 ≤ most_pieces)
SoFar (worded phrases phrase) = All PhraseWithin phrases × PhraseWithin phrase × CountsWithin (phrases ++ phrase ∷ [])
SoFar (ended phrases) = All PhraseWithin phrases × CountsWithin phrases × (1 ≤ length phrases)

-- ── Books that begin so ──

-- What stands before the record begins the written form of a book within the limits.
pub record Begins (stage : Stage) : Type 0 where
  pub book : Book
  pub within : Within book
  pub rest : List ℕ
  pub whole : written book ≡ written_to stage ++ rest

-- A phrase has been named that can have no piece, because 256 stand before it. Its phrase record stands, and its gap is one too many.
unfoldable pub NoPieceLeft : Stage → Type 0
NoPieceLeft start = ⊥
NoPieceLeft headed = ⊥
NoPieceLeft (named phrases phrase) = piece_count phrases ≡ most_pieces
NoPieceLeft (gapped phrases phrase gap) = ⊥
NoPieceLeft (worded phrases phrase) = ⊥
NoPieceLeft (ended phrases) = ⊥
