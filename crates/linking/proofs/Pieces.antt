-- The pieces of a book come in the order of its keywords, so what is found for keyword p is the state of piece p's keyword.
-- Assumes nothing.
use mathlib.Core.Path.{◌≡◌, refl, sym, ap, ap₂, ◌∙◌}
use mathlib.Core.List.{List, [], ◌∷◌, ◌++◌, map, map-append}
use Prim.Native.Nat.{ℕ, ◌+◌, ◌<◌}
use native.Mathlib.Omega.{arith}
use lib.ListN as list
use lib.ListN.{length, get_or, length-map}
use Rattle.std.proofs.lemmas.List.{get_or-map}
use Rattle.meaning.specs.Books.{Piece, Phrase, Book, keywords}
use Rattle.numbering.specs.States.{state_count, number_in}
use Rattle.tables.specs.Spots.{Spot, spots_after, spots_from, spots_of, no_spot, spot_at, spot_count}
use Rattle.tables.specs.Endings.{keyword_of}
use Rattle.stepping.specs.Held.{HoldsStates}
use Rattle.survey.specs.declared.stretch.Stretch.{Stretch}
use Rattle.survey.specs.Stretches.{nowhere, bytes_of}
use Rattle.filling.specs.Keywords.{keyword_in, keywords_in, Gives}
use Rattle.linking.specs.Keywords.{keyword_states}
use Rattle.linking.proofs.Downward.{states_right}

-- ── The keywords of the pieces ──

abbrev keyword_at : Spot → List ℕ
keyword_at spot = spot.piece.keyword

after_keywords : (rank : ℕ) (before pieces : List Piece) → map keyword_at (spots_after rank before pieces) ≡ map (λ (piece : Piece). piece.keyword) pieces
unfolding spots_after
after_keywords rank before [] = refl
after_keywords rank before (piece ∷ rest) = ap {B = List (List ℕ)} (λ l. piece.keyword ∷ l) (after_keywords rank (before ++ piece ∷ []) rest)

from_keywords : (rank : ℕ) (phrases : List Phrase) → map keyword_at (spots_from rank phrases) ≡ keywords phrases
unfolding spots_from keywords
from_keywords rank [] = refl
from_keywords rank (phrase ∷ rest) =
    map-append keyword_at (spots_after rank [] phrase.pieces) (spots_from (rank + 1) rest)
    ∙ ap₂ {C = List (List ℕ)} (λ l k. l ++ k) (after_keywords rank [] phrase.pieces) (from_keywords (rank + 1) rest)

-- Piece p's keyword is the book's keyword p.
pub keyword_of_lem : (book : Book) (p : ℕ) → keyword_of book p ≡ get_or (keywords book.phrases) p []
unfolding keyword_of spot_at spots_of
keyword_of_lem book p = sym (list.get_or-map keyword_at (spots_of book) p no_spot) ∙ ap (λ l. get_or l p []) (from_keywords 0 book.phrases)

pub keyword_count : (book : Book) → spot_count book ≡ length (keywords book.phrases)
unfolding spot_count spots_of
keyword_count book = sym (length-map (spots_of book) keyword_at) ∙ ap length (from_keywords 0 book.phrases)

-- ── The keywords that are given ──

pub length_keywords : (text : List ℕ) (words : List Stretch) → length (keywords_in text words) ≡ length words
unfolding keywords_in
length_keywords text words = length-map words (bytes_of text)

pub keywords_at : (text : List ℕ) (words : List Stretch) (q : ℕ) → q < length words → get_or (keywords_in text words) q [] ≡ keyword_in text words q
unfolding keywords_in keyword_in
keywords_at text words q l = get_or-map (bytes_of text) words q nowhere [] l

module _ (text : List ℕ) (words : List Stretch) (book : Book) (gives : Gives text words book) where
  -- As many keywords are given as the book has pieces.
  pub given_count : length words ≡ spot_count book
  given_count = sym (length_keywords text words) ∙ ap length gives.all ∙ sym (keyword_count book)

  pub given_keyword : (p : ℕ) → p < spot_count book → keyword_in text words p ≡ keyword_of book p
  given_keyword p l =
      sym (keywords_at text words p (omega (arith, given_count)))
      ∙ ap {B = List ℕ} (λ l. get_or l p []) gives.all
      ∙ sym (keyword_of_lem book p)

  -- On tables that hold the book's states, what is found for each piece is the state of its keyword.
  pub piece_states : (t : List ℕ) → HoldsStates book t → (p : ℕ) → p < spot_count book
      → get_or (keyword_states t (state_count book) text words (length words)) p 0 ≡ number_in book (keyword_of book p)
  piece_states t held p l = states_right text words book gives t held p (omega (arith, given_count)) ∙ ap (number_in book) (given_keyword p l)
