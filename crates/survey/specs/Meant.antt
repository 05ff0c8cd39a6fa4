-- What the survey of a book leaves behind, in terms of the book. Assumes nothing: these are definitions.
use Rattle.std.specs.Prelude.{◌≡◌, ◌⊎◌, List, ℕ, ◌+◌, ◌*◌, ◌≤◌, ◌<◌, length, get_or}
use Rattle.lent.specs.Zeros.{Zero}
use Rattle.meaning.specs.Books.{Book}
use Rattle.format.specs.Limits.{longest_keyword}
use Rattle.tables.specs.Spots.{spot_count}
use Rattle.tables.specs.Endings.{keyword_of}
use Rattle.tables.specs.Layout.{piece_at, phrase_at, rows_at, room_for_pieces, room_for_phrases, up_to}
use Rattle.tables.specs.Layout.{delay_of, span_of, rank_of, ends_of, number_of_rank, rights_of_rank}
use Rattle.tables.specs.Reads.{Whole, delay_in, span_in, link_in, rank_in, ends_in, phrase_number_in, phrase_rights_in}
use Rattle.survey.specs.declared.Surveyed.{Surveyed}
use Rattle.survey.specs.declared.stretch.Stretch.{Stretch}
use Rattle.survey.specs.Stretches.{nowhere, bytes_of}
use Rattle.survey.specs.Turns.{Notes}

-- What build lends: table memory whose regions of pieces and phrases are zero, and room for 256 keywords.
pub record Blank (before : Notes) : Type 0 where
  pub whole : Whole before.tables
  pub zero : Zero piece_at rows_at before.tables
  pub words : length before.words ≡ room_for_pieces

-- The regions of pieces and phrases say what the layout of the book's tables says, but for the links, which are as they were.
-- Every byte outside of these regions is as it was.
pub record Entered (book : Book) (before after : List ℕ) : Type 0 where
  pub delays : (p : ℕ) → p < room_for_pieces → delay_in after p ≡ up_to (spot_count book) (delay_of book) p
  pub spans : (p : ℕ) → p < room_for_pieces → span_in after p ≡ up_to (spot_count book) (span_of book) p
  pub links : (p : ℕ) → p < room_for_pieces → link_in after p ≡ link_in before p
  pub ranks : (p : ℕ) → p < room_for_pieces → rank_in after p ≡ up_to (spot_count book) (rank_of book) p
  pub ends : (p : ℕ) → p < room_for_pieces → ends_in after p ≡ up_to (spot_count book) (ends_of book) p
  pub numbers : (j : ℕ) → j < room_for_phrases → phrase_number_in after j ≡ up_to (length book.phrases) (number_of_rank book) j
  pub rights : (j : ℕ) → j < room_for_phrases → phrase_rights_in after j ≡ up_to (length book.phrases) (rights_of_rank book) j
  pub spares : (j : ℕ) → j < room_for_phrases → get_or after (phrase_at + 4 * j + 3) 0 ≡ 0
  pub elsewhere : (k : ℕ) → (k < piece_at) ⊎ (rows_at ≤ k) → get_or after k 0 ≡ get_or before k 0
  pub long : length after ≡ length before

-- A keyword is a stretch of the book: the bytes from an offset on, as many as its length says, which is 32 at most.
pub record Located (bytes keyword : List ℕ) (word : Stretch) : Type 0 where
  pub there : bytes_of bytes word ≡ keyword
  pub inside : word.offset + word.count ≤ length bytes
  pub long : word.count ≡ length keyword
  pub short : word.count ≤ longest_keyword

-- The survey's answer has the numbers of phrases and pieces; the tables hold them, and each keyword is noted where it stands, in
-- the room that was lent.
pub record SurveyMeant (book : Book) (bytes : List ℕ) (before : Notes) (answer : Surveyed) (after : Notes) : Type 0 where
  pub phrases : answer.phrases ≡ length book.phrases
  pub pieces : answer.pieces ≡ spot_count book
  pub entered : Entered book before.tables after.tables
  pub room : length after.words ≡ room_for_pieces
  pub keywords : (p : ℕ) → p < spot_count book → Located bytes (keyword_of book p) (get_or after.words p nowhere)
