-- The keywords of a book that is lent as bytes, its text: each is a stretch of it. Assumes nothing: these are definitions.
use Rattle.std.specs.Prelude.{◌≡◌, List, map, ℕ, ◌+◌, ◌≤◌, ◌<◌, length, get_or}
use Rattle.meaning.specs.Books.{Book, keywords}
use Rattle.format.specs.Limits.{longest_keyword, most_pieces}
use Rattle.lent.specs.Numbers.{Bytes}
use Rattle.survey.specs.declared.stretch.Stretch.{Stretch}
use Rattle.survey.specs.Stretches.{nowhere, bytes_of}

-- Keyword q: the bytes of its stretch.
unfoldable pub keyword_in : List ℕ → List Stretch → ℕ → List ℕ
unfolding bytes_of
keyword_in text words q = bytes_of text (get_or words q nowhere)

-- The keywords, in their order.
unfoldable pub keywords_in : List ℕ → List Stretch → List (List ℕ)
unfolding bytes_of
keywords_in text words = map (bytes_of text) words

-- An offset is a number of two bytes.
abbrev pub offset_values : ℕ
offset_values = 65536

-- There are no more keywords than a book may have, each lies in the text, and has at most 32 bytes.
pub record Inside (text : List ℕ) (words : List Stretch) : Type 0 where
  pub few : length words ≤ most_pieces
  pub small : length text < offset_values
  pub ends : (q : ℕ) → q < length words → (get_or words q nowhere).offset + (get_or words q nowhere).count ≤ length text
  pub short : (q : ℕ) → q < length words → (get_or words q nowhere).count ≤ longest_keyword

-- What is lent gives the keywords of a book: one after the other, in the order in which they are written, as bytes that lie there.
pub record Gives (text : List ℕ) (words : List Stretch) (book : Book) : Type 0 where
  pub bytes : Bytes text
  pub inside : Inside text words
  pub all : keywords_in text words ≡ keywords book.phrases
