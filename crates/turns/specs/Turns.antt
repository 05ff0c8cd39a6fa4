-- What is written, turn by turn, in the program's order. Assumes nothing: these are definitions.
use Rattle.std.specs.Prelude.{cond, List, [], ◌++◌, ℕ, zero, suc, ◌+◌, ◌*◌, ◌/◌, ◌%◌, ◌≤◌, leb, length, take, drop, Result, Ok, Err}
use Rattle.format.specs.Limits.{most_phrases}
use Rattle.tables.specs.Layout.{tables_size}
use Rattle.running.specs.Layout.{running_size}
use Rattle.listing.specs.Lines.{longest_line}
use Rattle.listing.specs.Listing.{part_length}
use Rattle.lines.specs.Answers.{listed_taken, listed_hits, listed_steps}
use Rattle.lines.specs.Last.{text_of, last_of, too_long_of}
use Rattle.lines.specs.declared.answers.BookRefused.{BookRefused}
use Rattle.lines.specs.declared.answers.Listed.{Listed}
use Rattle.lines.specs.declared.answers.PartRefused.{PartRefused}
use Rattle.lines.specs.declared.answers.PartRefused.TheVariants as why
use Rattle.parts.specs.Exact.{OpenEnd, ListEnd, list_of}
use Rattle.parts.specs.Meant.{opened_text, listed_text}

-- What one turn is lent beside the memories, whatever it held: room for reports, and a buffer for their lines.
pub record Lent : Type 0 where
  pub room : List ℕ
  pub out : List ℕ

-- ── What a letter has come to so far ──

pub record Totals : Type 0 where
  pub taken : ℕ
  pub hits : ℕ
  pub steps : ℕ

abbrev pub no_totals : Totals
no_totals = record { taken = 0; hits = 0; steps = 0 }

-- Counts are added in 64 bits.
unfoldable pub added : ℕ → ℕ → ℕ
added count more = (count + more) % 18446744073709551616

-- After one call more.
unfoldable pub totals_with : Totals → Result Listed PartRefused → Totals
totals_with totals answer = record {
  taken = added totals.taken (listed_taken answer);
  hits = added totals.hits (listed_hits answer);
  steps = added totals.steps (listed_steps answer);
}

-- ── The turns ──

-- The letter comes in parts of 4,096 bytes, the last one shorter. The part in which the byte stands that follows so many begins here, and so many
-- of its bytes are used.
abbrev pub part_begin : ℕ → ℕ
part_begin taken = taken / part_length * part_length

abbrev pub part_used : ℕ → ℕ
part_used taken = taken % part_length

-- A part is used up before the next is read: what is offered after so many bytes is what remains of that part.
unfoldable pub remaining : List ℕ → ℕ → List ℕ
remaining letter taken = drop (part_used taken) (take part_length (drop (part_begin taken) letter))

-- What a turn's answer leads to: the lines of the turn, and the turns after it; or the line of a letter that is too long, and nothing after it. Any
-- other refusal ends the listing there.
unfoldable pub onward : Result Listed PartRefused → List ℕ → List ℕ → List ℕ → List ℕ
onward (Ok took) lines later too_long = lines ++ later
onward (Err why.TooLong) lines later too_long = too_long
onward (Err why.NotTaken) lines later too_long = []

module _ (tables letter : List ℕ) (lent : ℕ → Lent) (last : List ℕ) where
  -- The call of a turn, after so many bytes.
  abbrev pub call_of : ℕ → List ℕ → Totals → ListEnd
  call_of turn running totals = list_of tables running (remaining letter totals.taken) (lent turn).room (lent turn).out

  abbrev pub last_text : Totals → List ℕ
  last_text totals = text_of (last_of last totals.taken totals.hits totals.steps)

  abbrev pub too_long_text : Totals → List ℕ
  too_long_text totals = text_of (too_long_of last totals.taken)

  -- All that is written from a turn on, with at most so many turns left: the last lines once nothing remains of the letter.
  unfoldable pub turns_from : ℕ → ℕ → List ℕ → Totals → List ℕ
  turns_from zero turn running totals = last_text totals
  turns_from (suc more) turn running totals =
      let end : ListEnd = call_of turn running totals in
      let later : List ℕ = turns_from more (turn + 1) end.running (totals_with totals end.answer) in
      cond (leb (length letter) totals.taken) (last_text totals) (onward end.answer (listed_text end) later (too_long_text totals))

-- ── The whole ──

-- The line of the book, and, where it is ready, what is written of the letter.
unfoldable pub opening : Result ℕ BookRefused → List ℕ → List ℕ → List ℕ
opening (Ok end) line letter = line ++ letter
opening (Err refused) line letter = line

-- All that is written, once open_book has answered. A letter has no more turns than bytes.
unfoldable pub written : OpenEnd → List ℕ → (ℕ → Lent) → List ℕ → List ℕ
written end letter lent last =
    opening end.answer (opened_text end) (turns_from end.tables letter lent last (length letter) 0 end.running no_totals)

-- What is lent is large enough: memories of their published sizes, a buffer for the line of the book and one for the last lines, and in every turn
-- room for each phrase that a book may have, with a buffer for a line of each report that there is room for.
pub record Enough (tables running line : List ℕ) (lent : ℕ → Lent) (last : List ℕ) : Type 0 where
  pub table_memory : tables_size ≤ length tables
  pub running_memory : running_size ≤ length running
  pub for_the_book : longest_line ≤ length line
  pub for_reports : (turn : ℕ) → most_phrases ≤ length (lent turn).room / 2
  pub for_hits : (turn : ℕ) → longest_line * (length (lent turn).room / 2) ≤ length (lent turn).out
  pub for_the_end : 2 * longest_line ≤ length last
