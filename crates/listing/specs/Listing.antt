-- The listing: what is written to standard output, as a function of what is read from standard input, all bytes of both.
-- Assumes nothing: these are definitions.
use Rattle.std.specs.Prelude.{Bool, true, false, cond, List, [], ◌∷◌, ◌++◌, ℕ, zero, suc, ◌+◌, ◌*◌, ◌/◌, eqb, ltb, leb, length, take, drop}
use Rattle.meaning.specs.Calls.{largest_place}
use Rattle.meaning.specs.Books.{Phrase, Book}
use Rattle.meaning.specs.Reports.{Report, reports}
use Rattle.meaning.specs.Automaton.{steps}
use Rattle.format.specs.Refusals.{refusal_number}
use Rattle.format.specs.Judged.{Judgement, accepted, refused, judged}
use Rattle.listing.specs.Lines.{book_line, refused_line, hit_line, end_line, no_statement, letter_line}

-- ── What is read ──

-- Two bytes of book length, the high byte first, and then the book. If input ends early the book is what came after the two length
-- bytes, and empty if those are cut.
unfoldable pub book_in : List ℕ → List ℕ
book_in [] = []
book_in (high ∷ []) = []
book_in (high ∷ low ∷ rest) = take (256 * high + low) rest

-- Then the letter, to the end.
unfoldable pub letter_in : List ℕ → List ℕ
letter_in [] = []
letter_in (high ∷ []) = []
letter_in (high ∷ low ∷ rest) = drop (256 * high + low) rest

-- ── The parts of the letter ──

-- The letter is offered in parts of 4,096 bytes, the last one shorter.
abbrev pub part_length : ℕ
part_length = 4096

-- How a letter went: the bytes taken of it, and whether a part was refused with 11.
pub record Offered : Type 0 where
  pub taken : ℕ
  pub too_long : Bool

abbrev pub outcome : ℕ → Bool → Offered
outcome taken too_long = record { taken = taken; too_long = too_long }

-- Part after part, at most so many, from the bytes already taken on: a part is refused where the bytes already taken plus this part exceed
-- 4,294,967,295, and no other is offered after it; any other part is used up before the next is read.
unfoldable pub offered_from : ℕ → ℕ → List ℕ → Offered
offered_from zero taken rest = outcome taken false
offered_from (suc parts) taken rest =
    let after : ℕ = taken + length (take part_length rest) in
    let later : Offered = offered_from parts after (drop part_length rest) in
    cond (ltb largest_place after) (outcome taken true) later

-- A letter has no more parts than bytes.
unfoldable pub offered : List ℕ → Offered
offered letter = offered_from (length letter) 0 letter

-- So all of a letter is taken that does not pass the largest place; of a longer one, the whole parts before it.
abbrev pub whole_parts : ℕ
whole_parts = largest_place / part_length * part_length

-- ── What is written ──

-- The rights code of the phrase with a number.
unfoldable pub rights_of : List Phrase → ℕ → ℕ
rights_of [] number = 0
rights_of (phrase ∷ rest) number = cond (eqb phrase.number number) phrase.rights (rights_of rest number)

-- A line for each report: its place, its phrase number and that phrase's rights code.
unfoldable pub hit_lines : Book → List Report → List ℕ
hit_lines book [] = []
hit_lines book (report ∷ rest) =
    hit_line report.place report.number (rights_of book.phrases report.number) ++ hit_lines book rest

-- The end line, and with no hits a further line.
unfoldable pub last_lines : ℕ → ℕ → ℕ → List ℕ
last_lines taken hits steps = end_line taken hits steps ++ cond (eqb hits 0) no_statement []

-- All of the letter is taken: its hits, the bytes taken, reports and failure steps.
unfoldable pub whole_letter : Book → List ℕ → List ℕ
whole_letter book letter =
    hit_lines book (reports book letter) ++ last_lines (length letter) (length (reports book letter)) (steps book letter)

-- A part was refused with 11, after these bytes: their hits, and the bytes taken, in place of the end line and anything after it.
unfoldable pub cut_letter : Book → List ℕ → List ℕ
cut_letter book read = hit_lines book (reports book read) ++ letter_line (length read)

unfoldable pub letter_lines : Book → List ℕ → List ℕ
letter_lines book letter =
    cond (leb (length letter) largest_place) (whole_letter book letter) (cut_letter book (take whole_parts letter))

-- Of an accepted book build's number, its offset and the phrases are written, and then the letter's lines; of a refused one only its number and
-- offset.
unfoldable pub lines_of : Judgement → List ℕ → List ℕ
lines_of (accepted book offset) letter = book_line 0 offset (length book.phrases) ++ letter_lines book letter
lines_of (refused why offset) letter = refused_line (refusal_number why) offset

-- The whole listing.
unfoldable pub listing : List ℕ → List ℕ
listing input = lines_of (judged (book_in input)) (letter_in input)
