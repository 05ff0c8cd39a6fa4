-- What the functions mean: of a book by its judgement, and of a part on memory of a book after some bytes of a letter.
-- Assumes nothing: these are definitions.
use Rattle.std.specs.Prelude.{◌≡◌, List, [], ◌++◌, ℕ, ◌+◌, ◌*◌, ◌/◌, ◌≤◌, ◌<◌, length, take, Ok, Err}
use Rattle.meaning.specs.Books.{Book}
use Rattle.meaning.specs.Calls.{largest_place, takes, reports_after, steps_after}
use Rattle.format.specs.Refusals.{Refusal, refusal_number}
use Rattle.format.specs.Judged.{Judgement, accepted, refused}
use Rattle.scanner.specs.Meant.{TablesOf, RunningOf}
use Rattle.listing.specs.Lines.{book_line, refused_line, longest_line}
use Rattle.listing.specs.Listing.{hit_lines}
use Rattle.lines.specs.Answers.{opened_end, listed_end}
use Rattle.lines.specs.declared.answers.PartRefused.TheVariants as why
use Rattle.parts.specs.Exact.{OpenEnd, ListEnd}

-- ── What the caller passes on: the bytes up to where the lines end ──

abbrev pub opened_text : OpenEnd → List ℕ
opened_text end = take (opened_end end.answer) end.out

abbrev pub listed_text : ListEnd → List ℕ
listed_text end = take (listed_end end.answer) end.out

-- ── The book ──

-- An accepted book is ready: the lent memory is the book's before the first byte, and the line has build's number, which is 0, its offset,
-- and the phrases.
pub record BookReady (book : Book) (offset : ℕ) (out : List ℕ) (end : OpenEnd) : Type 0 where
  pub ready : end.answer ≡ Ok (opened_end end.answer)
  pub tables : TablesOf book end.tables
  pub running : RunningOf book [] end.running
  pub text : longest_line ≤ length out → opened_text end ≡ book_line 0 offset (length book.phrases)

-- Of a refused book the line has the number and the offset.
pub record BookRefused (why : Refusal) (offset : ℕ) (out : List ℕ) (end : OpenEnd) : Type 0 where
  pub not_ready : end.answer ≡ Err (record { end = opened_end end.answer })
  pub text : longest_line ≤ length out → opened_text end ≡ refused_line (refusal_number why) offset

-- What a judgement of the book leads to.
unfoldable pub OpensAs : Judgement → List ℕ → OpenEnd → Type 0
OpensAs (accepted book offset) out end = BookReady book offset out end
OpensAs (refused why offset) out end = BookRefused why offset out end

-- ── A part, after the bytes x of a letter ──

-- A call that is refused changes nothing and writes no line.
pub record ListRefused (m room out : List ℕ) (end : ListEnd) : Type 0 where
  pub memory_kept : end.running ≡ m
  pub room_kept : end.room ≡ room
  pub out_kept : end.out ≡ out

-- So many bytes are taken, by the taking rule: at least one where there is any. Their reports and steps are counted, a hit line is written for each
-- report, and the memory is the book's after x and the bytes taken.
pub record ListTook (book : Book) (x part room out : List ℕ) (taken : ℕ) (end : ListEnd) : Type 0 where
  pub rule : taken ≡ takes book x part (length room / 2)
  pub goes_on : 0 < length part → 0 < taken
  pub offered : taken ≤ length part
  pub says
      : end.answer
      ≡ Ok (record {
        taken = taken;
        hits = length (reports_after book x (take taken part));
        steps = steps_after book x (take taken part);
        end = listed_end end.answer;
      })
  pub memory : RunningOf book (x ++ take taken part) end.running
  pub text : longest_line * (length room / 2) ≤ length out → listed_text end ≡ hit_lines book (reports_after book x (take taken part))

-- Refused with 10 where the room is below the number of phrases; then with 11 where the bytes already taken plus this part exceed the largest
-- place; else bytes are taken.
pub record ListRight (book : Book) (x m part room out : List ℕ) (end : ListEnd) : Type 0 where
  pub no_room : length room / 2 < length book.phrases → (end.answer ≡ Err why.NotTaken) × ListRefused m room out end
  pub too_long : length book.phrases ≤ length room / 2 → largest_place < length x + length part
      → (end.answer ≡ Err why.TooLong) × ListRefused m room out end
  pub took : length book.phrases ≤ length room / 2 → length x + length part ≤ largest_place → (taken : ℕ) × ListTook book x part room out taken end
