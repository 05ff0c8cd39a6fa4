-- Every byte of a state is a byte of a keyword, and keywords within the limits have no others than those below 256.
-- Assumes nothing.
use mathlib.Core.Path.{◌≡◌, refl, sym, ap, ◌∙◌}
use mathlib.Core.Logic.{⊎_elim}
use mathlib.Core.Bool.{So}
use mathlib.Core.List.Memᴰ
use mathlib.Core.List.{List, [], ◌∷◌, ◌++◌, map, append_assoc, Memᴰ}
use Prim.Native.Nat.{ℕ, ◌≤◌, ◌<◌}
use native.Mathlib.Omega.{arith}
use lib.ListN.{length, length-append}
use Rattle.meaning.specs.Books.{Piece, Phrase, Book, keywords}
use Rattle.meaning.specs.Automaton.{IsState, is_state, PrefixOfKeyword}
use Rattle.meaning.proofs.States.{is_state_iff}
use Rattle.format.specs.Limits.{longest_keyword, All, Bytes, Between, PieceWithin, PhraseWithin, Within}
use Rattle.format.proofs.Lists.{all_append, all_right}
use Rattle.numbering.specs.States.{byte_values}
use Rattle.numbering.proofs.Order.{length_snoc}

all_in : {A : Type 0} (P : A → Type 0) (l : List A) (x : A) → All P l → Memᴰ x l → P x
unfolding All
all_in P [] x h m = absurd (Memᴰ.not-nil m)
all_in P (y ∷ l) x h m = ⊎_elim (λ (e : x ≡ y). rw e h.0) (λ k. all_in P l x h.1 k) (Memᴰ.cases_cons m)

-- ── Keywords within the limits ──

abbrev keywords_of : List Piece → List (List ℕ)
keywords_of pieces = map (λ (piece : Piece). piece.keyword) pieces

module _ (P : List ℕ → Type 0) (each : (piece : Piece) → PieceWithin piece → P piece.keyword) where
  of_pieces : (pieces : List Piece) → All PieceWithin pieces → All P (keywords_of pieces)
  unfolding All
  of_pieces [] h = tt
  of_pieces (piece ∷ rest) h = (each piece h.0, of_pieces rest h.1)

  -- What holds of the keyword of every piece within the limits holds of all keywords.
  of_phrases : (phrases : List Phrase) → All PhraseWithin phrases → All P (keywords phrases)
  unfolding All keywords
  of_phrases [] h = tt
  of_phrases (phrase ∷ rest) h =
      all_append P (keywords_of phrase.pieces) (keywords rest) (of_pieces phrase.pieces h.0.so_far.pieces) (of_phrases rest h.1)

module _ (book : Book) (within : Within book) where
  -- The bytes of every keyword are below 256.
  pub within_bytes : All Bytes (keywords book.phrases)
  within_bytes = of_phrases Bytes (λ piece h. h.bytes) book.phrases within.each

  -- Every keyword has 1 to 32 bytes.
  pub within_long : (keyword : List ℕ) → Memᴰ keyword (keywords book.phrases) → Between 1 longest_keyword (length keyword)
  within_long keyword m = all_in Long (keywords book.phrases) keyword (of_phrases Long (λ piece h. h.long) book.phrases within.each) m
    where
      Long : List ℕ → Type 0
      Long w = Between 1 longest_keyword (length w)

  -- There is a keyword.
  pub within_some : (keyword : List ℕ) × Memᴰ keyword (keywords book.phrases)
  unfolding All keywords
  within_some = phrases_some book.phrases within.some within.each
    where
      pieces_some : (pieces : List Piece) (rest : List Phrase) → 1 ≤ length pieces
          → (keyword : List ℕ) × Memᴰ keyword (keywords_of pieces ++ keywords rest)
      pieces_some [] rest l = absurd (omega arith)
      pieces_some (piece ∷ pieces) rest l = (piece.keyword, Memᴰ.head refl)

      phrases_some : (phrases : List Phrase) → 1 ≤ length phrases → All PhraseWithin phrases → (keyword : List ℕ) × Memᴰ keyword (keywords phrases)
      phrases_some [] l h = absurd (omega arith)
      phrases_some (phrase ∷ rest) l h = pieces_some phrase.pieces rest h.0.pieced

-- ── States ──

-- The bytes of states are bytes of keywords.
pub state_byte : (book : Book) → All Bytes (keywords book.phrases) → (u : List ℕ) (a : ℕ) → So (is_state book (u ++ a ∷ [])) → a < byte_values
unfolding IsState All
state_byte book bytes u a h = ⊎_elim
    (λ (e : u ++ a ∷ [] ≡ []). absurd (omega (arith, length_snoc u a, ap length e)))
    (λ (p : PrefixOfKeyword book (u ++ a ∷ [])).
    let split : u ++ a ∷ p.starts.rest ≡ p.keyword = sym (append_assoc u (a ∷ []) p.starts.rest) ∙ p.starts.split in
    (all_right (λ x. x < 256) u (a ∷ p.starts.rest) (rw split (all_in Bytes (keywords book.phrases) p.keyword bytes p.listed))).0)
    ((is_state_iff book (u ++ a ∷ [])).0 h)

-- No state is longer than the longest keyword may be.
pub state_short : (book : Book) → Within book → (u : List ℕ) → So (is_state book u) → length u ≤ longest_keyword
unfolding IsState
state_short book within u h = ⊎_elim
    (λ (e : u ≡ []). omega (arith, ap length e))
    (λ (p : PrefixOfKeyword book u).
    omega (arith, (within_long book within p.keyword p.listed).1, length-append u p.starts.rest, ap length p.starts.split))
    ((is_state_iff book u).0 h)
