-- What a phrase book says, once it has been read: phrases, their pieces, and how wide a gap is.
-- Assumes nothing: these are definitions.
use Rattle.std.specs.Prelude.{List, [], ◌∷◌, ◌++◌, map, ℕ, length}

-- A gap is bounded, from least to most, or open, from least on with no upper limit.
pub data Gap : Type 0 where
  bounded : ℕ → ℕ → Gap
  open_from : ℕ → Gap

-- A piece is a gap and then a keyword, the list of its bytes.
pub record Piece : Type 0 where
  pub gap : Gap
  pub keyword : List ℕ

-- A phrase has a number, a rights code, and one piece after the other.
pub record Phrase : Type 0 where
  pub number : ℕ
  pub rights : ℕ
  pub pieces : List Piece

pub record Book : Type 0 where
  pub phrases : List Phrase

-- Gaps are counted in bytes: the width of some bytes is how many they are.
unfoldable pub width_in : Book → List ℕ → ℕ
width_in book bytes = length bytes

-- The keywords of some phrases, in the order in which they are written.
unfoldable pub keywords : List Phrase → List (List ℕ)
keywords [] = []
keywords (phrase ∷ rest) = map (λ (piece : Piece). piece.keyword) phrase.pieces ++ keywords rest
