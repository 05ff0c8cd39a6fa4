-- The lines of the listing, as document 01 words them: numbers in decimal, and the byte 0A at the end of each line.
-- Assumes nothing: these are definitions.
use Rattle.std.specs.Prelude.{List, [], ◌∷◌, ◌++◌, ℕ}
use Rattle.meaning.specs.Rows.{bytes}
use Rattle.listing.specs.Decimal.{digits}

-- The line of some parts: one after the other, and then the byte 0A.
unfoldable pub line : List (List ℕ) → List ℕ
line [] = 10 ∷ []
line (part ∷ parts) = part ++ line parts

-- A book that was taken: build's number, its offset, and the phrases.
unfoldable pub book_line : ℕ → ℕ → ℕ → List ℕ
unfolding line
book_line number offset phrases =
    line (bytes "book " ∷ digits number ∷ bytes " at " ∷ digits offset ∷ bytes " phrases " ∷ digits phrases ∷ [])

-- A book that was refused: build's number and its offset.
unfoldable pub refused_line : ℕ → ℕ → List ℕ
unfolding line
refused_line number offset = line (bytes "book " ∷ digits number ∷ bytes " at " ∷ digits offset ∷ [])

-- A report: its place, its phrase number, and that phrase's rights code.
unfoldable pub hit_line : ℕ → ℕ → ℕ → List ℕ
unfolding line
hit_line place number rights =
    line (bytes "hit " ∷ digits place ∷ bytes " phrase " ∷ digits number ∷ bytes " right " ∷ digits rights ∷ [])

-- The end of the letter: the bytes taken, the reports, and the failure steps.
unfoldable pub end_line : ℕ → ℕ → ℕ → List ℕ
unfolding line
end_line taken hits steps =
    line (bytes "end " ∷ digits taken ∷ bytes " hits " ∷ digits hits ∷ bytes " steps " ∷ digits steps ∷ [])

-- What follows the end line where there were no hits.
unfoldable pub no_statement : List ℕ
unfolding line
no_statement = line (bytes "no statement" ∷ [])

-- A letter that passes the largest place, so that feed refused a part of it with 11: the bytes taken until then.
unfoldable pub letter_line : ℕ → List ℕ
unfolding line
letter_line taken = line (bytes "letter 11 at " ∷ digits taken ∷ [])

-- The most bytes that a line takes whose numbers are below 2 ^ 64: those of a hit line with three numbers of 20 digits.
abbrev pub longest_line : ℕ
longest_line = 80
