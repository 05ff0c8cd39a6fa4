-- The form of a line: its text, with a mark for each number that stands in it.
-- Assumes nothing: these are definitions.
use Rattle.std.specs.Prelude.{cond, List, [], ◌∷◌, ◌++◌, ℕ, ◌+◌, eqb, get_or}
use Rattle.listing.specs.Decimal.{digits}

-- The mark of a number is the byte of #.
abbrev pub mark : ℕ
mark = 35

-- What a byte of a form brings to the line where n is the next number: a mark brings the digits of n, any other byte itself.
unfoldable pub shown : ℕ → ℕ → List ℕ
shown b n = cond (eqb b mark) (digits n) (b ∷ [])

-- Which number is next behind a byte of a form, where it was the one at k before.
unfoldable pub next_number : ℕ → ℕ → ℕ
next_number b k = cond (eqb b mark) (k + 1) k

-- The line that a form makes with the numbers from the one at k on.
unfoldable pub filled : List ℕ → List ℕ → ℕ → List ℕ
unfolding shown next_number
filled [] numbers k = []
filled (b ∷ form) numbers k = shown b (get_or numbers k 0) ++ filled form numbers (next_number b k)
