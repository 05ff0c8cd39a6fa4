-- What a match is. A letter is the list of its bytes, and a place is the number of bytes read: the first byte ends at place 1.
-- Each statement stands beside a test that can be run. Assumes nothing: these are definitions.
use Rattle.std.specs.Prelude.{◌≡◌, Bool, true, false, ◌&&◌, ◌||◌, ℕ, zero, suc, ◌+◌, ◌-◌, ◌≤◌, leb, take, drop}
use mathlib.Core.List.{List, [], ◌∷◌, ◌++◌}
use Rattle.std.proofs.Math.Dec.{eqb}
use Rattle.std.proofs.Math.ListN.{length}
use Rattle.meaning.specs.Books.{Gap, bounded, open_from, Piece, Phrase, Book, width_in}

-- ── Statements ──

-- A width lies between least and most of the gap, both included; an open gap has no upper limit.
unfoldable pub Admits : Gap → ℕ → Type 0
Admits (bounded least most) width = (least ≤ width) × (width ≤ most)
Admits (open_from least) width = least ≤ width

-- A keyword fills the bytes that end at a place: the letter's first bytes, up to that place, are some bytes and then the keyword.
pub record Fills (keyword letter : List ℕ) (place : ℕ) : Type 0 where
  pub before : List ℕ
  pub split : before ++ keyword ≡ take place letter
  pub inside : place ≤ length letter

-- So many bytes of the letter, after a place.
unfoldable pub bytes_after : ℕ → ℕ → List ℕ → List ℕ
bytes_after place count letter = take count (drop place letter)

module _ (width : List ℕ → ℕ) (letter : List ℕ) where
  -- A piece ends at a place, after a previous end: its keyword fills the bytes that end there, and between the previous end and
  -- the keyword lie so many bytes, with a width that the gap admits.
  pub record Follows (piece : Piece) (previous place : ℕ) : Type 0 where
    pub filled : Fills piece.keyword letter place
    pub between : ℕ
    pub spans : previous + between + length piece.keyword ≡ place
    pub admitted : Admits piece.gap (width (bytes_after previous between letter))

  -- There are places e1, .., em at which the pieces end, each after the one before, and em is the place.
  unfoldable pub Ends : ℕ → List Piece → ℕ → Type 0
  Ends previous [] place = previous ≡ place
  Ends previous (piece ∷ rest) place = (next : ℕ) × Follows piece previous next × Ends next rest place

-- A phrase matches at a place: its pieces end there, one after the other, from the letter's start.
unfoldable pub Matches : Book → Phrase → List ℕ → ℕ → Type 0
Matches book phrase letter place = Ends (width_in book) letter 0 phrase.pieces place

-- ── The same as tests ──

unfoldable pub admits : Gap → ℕ → Bool
admits (bounded least most) width = leb least width && leb width most
admits (open_from least) width = leb least width

-- Two lists of bytes are the same.
unfoldable pub same : List ℕ → List ℕ → Bool
same [] [] = true
same [] (y ∷ ys) = false
same (x ∷ xs) [] = false
same (x ∷ xs) (y ∷ ys) = eqb x y && same xs ys

-- Some bytes are a suffix of others: the same, or a suffix of what follows the first byte.
unfoldable pub suffix : List ℕ → List ℕ → Bool
unfolding same
suffix end [] = same end []
suffix end (x ∷ xs) = same end (x ∷ xs) || suffix end xs

unfoldable pub fills : List ℕ → List ℕ → ℕ → Bool
unfolding suffix
fills keyword letter place = leb place (length letter) && suffix keyword (take place letter)

-- A test holds of some number up to a last one.
unfoldable pub some_up_to : (ℕ → Bool) → ℕ → Bool
some_up_to test zero = test zero
some_up_to test (suc n) = test (suc n) || some_up_to test n

module _ (width : List ℕ → ℕ) (letter : List ℕ) where
  unfoldable pub follows : Piece → ℕ → ℕ → Bool
  unfolding fills admits bytes_after
  follows piece previous place =
      fills piece.keyword letter place
      && (leb (previous + length piece.keyword) place
      && admits piece.gap (width (bytes_after previous (place - length piece.keyword - previous) letter)))

  unfoldable pub ends : ℕ → List Piece → ℕ → Bool
  unfolding follows some_up_to
  ends previous [] place = eqb previous place
  ends previous (piece ∷ rest) place = some_up_to (λ next. follows piece previous next && ends next rest place) (length letter)

unfoldable pub matches : Book → Phrase → List ℕ → ℕ → Bool
unfolding ends width_in
matches book phrase letter place = ends (width_in book) letter 0 phrase.pieces place
