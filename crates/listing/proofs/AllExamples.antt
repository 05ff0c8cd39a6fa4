-- The examples hold: the definition, run on what is read, gives what document 01 has written.
-- Assumes nothing.
use mathlib.Core.Path.{◌≡◌, refl}
use mathlib.Core.List.{map}
use Rattle.meaning.specs.Reports.{reports}
use Rattle.meaning.specs.Automaton.{steps}
use Rattle.format.specs.Refusals.{refusal_number}
use Rattle.format.specs.Judged.{judged}
use Rattle.listing.specs.Decimal.{digits}
use Rattle.listing.specs.Lines.{book_line, refused_line, hit_line, end_line, no_statement, letter_line}
use Rattle.listing.specs.Listing.{book_in, letter_in, rights_of, hit_lines, last_lines, whole_letter, cut_letter, letter_lines, lines_of, listing}
use Rattle.listing.specs.Examples.{Example, examples}

pub examples_hold : map (λ (e : Example). listing e.input) examples ≡ map (λ (e : Example). e.output) examples
unfolding examples listing lines_of book_in letter_in letter_lines whole_letter cut_letter hit_lines rights_of last_lines judged refusal_number reports steps book_line refused_line hit_line end_line no_statement letter_line digits
examples_hold = refl
