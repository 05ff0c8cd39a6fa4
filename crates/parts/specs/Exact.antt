-- What each function answers and leaves, for all that it can be lent. Assumes nothing: these are definitions.
use Rattle.std.specs.Prelude.{cond, List, ℕ, eqb, Result, Ok, Err}
use Rattle.tables.specs.Reads.{phrase_count_in}
use Rattle.builder.specs.Answers.{Said, said_by}
use Rattle.builder.specs.Build.{build_of}
use Rattle.scanner.specs.Answers.{Begun, Fed}
use Rattle.scanner.specs.Exact.{begin_of, FeedEnd, feed_of}
use Rattle.scanner.specs.declared.refusals.FeedError.{FeedError}
use Rattle.scanner.specs.declared.refusals.FeedError.TheVariants.{Memory, NoRoom, TooLong}
use Rattle.listing.specs.Lines.{book_line, refused_line}
use Rattle.listing.specs.Writing.{Left, left, with_line}
use Rattle.lines.specs.Hits.{hits_written}
use Rattle.lines.specs.declared.answers.BookRefused.{BookRefused}
use Rattle.lines.specs.declared.answers.Listed.{Listed}
use Rattle.lines.specs.declared.answers.PartRefused.{PartRefused}
use Rattle.lines.specs.declared.answers.PartRefused.TheVariants as listed

-- ── The book ──

-- The answer, and the tables, the running memory and the buffer after the call.
pub record OpenEnd : Type 0 where
  pub answer : Result ℕ BookRefused
  pub tables : List ℕ
  pub running : List ℕ
  pub out : List ℕ

-- The book is ready, and its line is written: build's number, which is 0, its offset, and the phrases.
unfoldable pub ready_with : List ℕ → List ℕ → List ℕ → ℕ → OpenEnd
ready_with t m out offset =
    let line : Left = with_line out 0 (book_line 0 offset (phrase_count_in t)) in
    record { answer = Ok line.next; tables = t; running = m; out = line.buffer }

-- What begin's answer leads to. Where it refuses the memory no line is written.
unfoldable pub ready_as : Begun → List ℕ → List ℕ → List ℕ → ℕ → OpenEnd
ready_as (Ok done) t m out offset = ready_with t m out offset
ready_as (Err why) t m out offset = record { answer = Err (record { end = 0 }); tables = t; running = m; out = out }

-- The letter begins.
unfoldable pub begun_of : List ℕ → List ℕ → List ℕ → ℕ → OpenEnd
begun_of t m out offset = ready_as (begin_of t m).answer t (begin_of t m).memory out offset

-- The answer where the book is refused: where its line ends.
abbrev pub refused_answer : ℕ → Result ℕ BookRefused
refused_answer end = Err (record { end = end })

-- The book is refused: its number and its offset are written, and the letter does not begin.
unfoldable pub refused_with : Said → List ℕ → List ℕ → List ℕ → OpenEnd
refused_with says t m out =
    let line : Left = with_line out 0 (refused_line says.number says.offset) in
    record { answer = refused_answer line.next; tables = t; running = m; out = line.buffer }

-- Build's number decides: with 0 the letter begins, with any other the book is refused.
unfoldable pub opened_as : Said → List ℕ → List ℕ → List ℕ → OpenEnd
opened_as says t m out = cond (eqb says.number 0) (begun_of t m out says.offset) (refused_with says t m out)

-- The book is built, and the letter begun.
unfoldable pub open_of : List ℕ → List ℕ → List ℕ → List ℕ → OpenEnd
open_of book t m out = opened_as (said_by (build_of book t).answer) (build_of book t).tables m out

-- ── A part ──

-- The answer, and the running memory, the room and the buffer after the call.
pub record ListEnd : Type 0 where
  pub answer : Result Listed PartRefused
  pub running : List ℕ
  pub room : List ℕ
  pub out : List ℕ

-- The answer where bytes were taken: how many, a hit for each report, the failure steps, and where the hit lines end.
abbrev pub took_answer : ℕ → ℕ → ℕ → ℕ → Result Listed PartRefused
took_answer taken reports steps end = Ok (record { taken = taken; hits = reports; steps = steps; end = end })

-- The hit lines of so many reports in the room, at the start of the buffer.
abbrev pub hits_of : List ℕ → List ℕ → ℕ → List ℕ → Left
hits_of t room reports out = hits_written t room 0 reports (left out 0)

-- Bytes were taken: the reports are counted, and a line is written for each.
unfoldable pub took_with : List ℕ → List ℕ → List ℕ → List ℕ → ℕ → ℕ → ℕ → ListEnd
took_with t m room out taken reports steps =
    let lines : Left = hits_of t room reports out in
    record { answer = took_answer taken reports steps lines.next; running = m; room = room; out = lines.buffer }

-- What feed's refusal is to the listing.
unfoldable pub part_refused : FeedError → PartRefused
part_refused TooLong = listed.TooLong
part_refused (Memory why) = listed.NotTaken
part_refused NoRoom = listed.NotTaken

-- What feed's answer leads to, with the memory and the room that it left.
unfoldable pub listed_as : Fed → List ℕ → List ℕ → List ℕ → List ℕ → ListEnd
listed_as (Ok took) t m room out = took_with t m room out took.taken took.reports took.steps
listed_as (Err why) t m room out = record { answer = Err (part_refused why); running = m; room = room; out = out }

-- The part is fed.
unfoldable pub list_of : List ℕ → List ℕ → List ℕ → List ℕ → List ℕ → ListEnd
list_of t m part room out =
    let end : FeedEnd = feed_of t m part room in
    listed_as end.answer t end.memory end.room out
