-- Listings that document 01 has: what is read, and what is written. Assumes nothing: these are definitions.
use Rattle.std.specs.Prelude.{List, [], ◌∷◌, ◌++◌, ℕ, length}
use Prim.Native.String.{String}
use Rattle.meaning.specs.Rows.{bytes}

pub record Example : Type 0 where
  pub input : List ℕ
  pub output : List ℕ

-- The lines of a text, each with the byte 0A at its end.
abbrev pub lines_with : List String → List ℕ
lines_with [] = []
lines_with (line ∷ rest) = bytes line ++ 10 ∷ lines_with rest

abbrev pub example : List ℕ → List String → Example
example input lines = record { input = input; output = lines_with lines }

-- The book of the example, with the least and the most of its second gap.
abbrev pub book_with : ℕ → ℕ → List ℕ
book_with least most =
    0x01 ∷ 0x01 ∷ 0x02 ∷ 0x00 ∷ 0x07 ∷ 0x01 ∷ 0x04 ∷ 0x00 ∷ 0x00 ∷ 0x83 ∷ 0x6E ∷ 0x6F ∷ 0x74 ∷ 0x03 ∷ 0x00 ∷ least ∷ 0x00 ∷ most
    ∷ 0x85 ∷ 0x70 ∷ 0x72 ∷ 0x69 ∷ 0x6E ∷ 0x74 ∷ 0x7F ∷ 0x00 ∷ 0x01 ∷ []

-- The length of the book, the book, the letter.
abbrev pub input_with : List ℕ → String → List ℕ
input_with book letter = 0x00 ∷ length book ∷ book ++ bytes letter

unfoldable pub examples : List Example
examples =
    {- the example -}
    example (input_with (book_with 1 9) "do not ever print") ("book 0 at 27 phrases 1" ∷ "hit 17 phrase 7 right 1" ∷ "end 17 hits 1 steps 1" ∷ [])
    ∷ {- with no hits -} example (input_with (book_with 1 9) "do print") ("book 0 at 27 phrases 1" ∷ "end 8 hits 0 steps 0" ∷ "no statement" ∷ [])
    ∷ {- with least 9 and most 1 -} example (input_with (book_with 9 1) "do not ever print") ("book 5 at 13" ∷ [])
    ∷ {- the length bytes are cut -} example [] ("book 2 at 0" ∷ [])
    ∷ example (0x00 ∷ []) ("book 2 at 0" ∷ [])
    ∷ {- input ends in the book -} example (0x00 ∷ 0x1B ∷ 0x01 ∷ 0x01 ∷ 0x02 ∷ 0x00 ∷ 0x07 ∷ 0x01 ∷ []) ("book 2 at 6" ∷ [])
    ∷ []
