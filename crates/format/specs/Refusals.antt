-- Why a book is refused: each reason once, by name, with document 01's number. Assumes nothing: these are definitions.
use Rattle.std.specs.Prelude.{ℕ, List, [], ◌∷◌}

pub data Refusal : Type 0 where
  -- the book ends inside a record or before the end record is complete
  cut : Refusal
  -- the kind is unknown, or not allowed at this point
  kind : Refusal
  -- a field is out of its range
  field : Refusal
  -- least is above most
  crossed : Refusal
  -- the phrase number is not above the one before
  order : Refusal
  -- the 129th phrase, the ninth piece of a phrase or the 257th of the book
  many : Refusal
  -- the end record's number is not the number of phrases
  total : Refusal
  -- this keyword brings the prefixes above 2,047
  full : Refusal

unfoldable pub refusal_number : Refusal → ℕ
refusal_number cut = 2
refusal_number kind = 3
refusal_number field = 4
refusal_number crossed = 5
refusal_number order = 6
refusal_number many = 7
refusal_number total = 8
refusal_number full = 9

-- Within one record 3 is looked at first, on the kind alone, then 2, 4, 5, 6, 7, 8, 9.
unfoldable pub in_order : List Refusal
in_order = kind ∷ cut ∷ field ∷ crossed ∷ order ∷ many ∷ total ∷ full ∷ []
