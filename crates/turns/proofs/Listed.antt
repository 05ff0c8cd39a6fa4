-- The theorem: the lines that the functions write, joined in the program's order, are the listing. By the book's judgement, and then by the letter's
-- lines.
-- Assumes nothing.
use mathlib.Core.Path.{◌≡◌, ap, ap₂, ◌∙◌}
use mathlib.Core.List.{List, ◌++◌}
use Prim.Native.Nat.{ℕ}
use lib.ListN.{length}
use Rattle.std.specs.Prelude.{Result}
use Rattle.format.specs.Judged.{Judgement, accepted, refused, judged}
use Rattle.listing.specs.Listing.{book_in, letter_in, lines_of, listing}
use Rattle.lines.specs.declared.answers.BookRefused.{BookRefused}
use Rattle.parts.specs.Exact.{OpenEnd}
use Rattle.parts.specs.Meant.{opened_text, OpensAs}
use Rattle.parts.specs.Promised.{OpenPromise}
use Rattle.turns.specs.Turns.{Lent, no_totals, turns_from, opening, written, Enough}
use Rattle.turns.proofs.Letter.{letter_written}

-- What is written is the listing of what was read: the line of the book, the lines of each turn and the last lines, joined in the program's order;
-- with any room and any buffers that are large enough, whatever they held, and for refused books and letters that are too long alike.
pub listing_written : (input tables running line : List ℕ) (lent : ℕ → Lent) (last : List ℕ) (end : OpenEnd)
    → OpenPromise (book_in input) tables running line end → Enough tables running line lent last
    → written end (letter_in input) lent last ≡ listing input
unfolding written opening OpensAs lines_of listing
listing_written input tables running line lent last end promise enough =
    of_judgement (judged (book_in input)) (promise.means enough.table_memory enough.running_memory)
  where
    letter : List ℕ
    letter = letter_in input

    turns : List ℕ
    turns = turns_from end.tables letter lent last (length letter) 0 end.running no_totals

    of_judgement : (j : Judgement) → OpensAs j line end → opening end.answer (opened_text end) turns ≡ lines_of j letter
    of_judgement (accepted book offset) is =
        ap (λ (a : Result ℕ BookRefused). opening a (opened_text end) turns) is.ready
        ∙ ap₂ ◌++◌ (is.text enough.for_the_book)
        (letter_written book end.tables letter lent last is.tables enough.for_reports enough.for_hits enough.for_the_end end.running is.running)
    of_judgement (refused why offset) is =
        ap (λ (a : Result ℕ BookRefused). opening a (opened_text end) turns) is.not_ready ∙ is.text enough.for_the_book
