-- No second answer and no second byte: the numbers said determine the answer, the layout every byte of the running memory up to its size, what is
-- kept every byte past it, and the reports the room. So the meaning alone leaves one end, and the exact reading leaves one for any input.
-- Assumes nothing.
use mathlib.Core.Path.{◌≡◌, refl, sym, ap, ap₂, ◌∙◌}
use mathlib.Core.Logic.{⊎_elim}
use mathlib.Core.Bool.{cond}
use mathlib.Core.List.{List, [], ◌++◌}
use Prim.Native.Nat.{ℕ, ◌+◌, ◌/◌, ◌≤◌, ◌<◌}
use native.Mathlib.Omega.{arith}
use lib.Dec.{eqb}
use lib.ListN.{length, take, get_or}
use lib.Seq.{ext_get_or}
use Rattle.lent.proofs.Cases.{lt_or_le}
use Rattle.meaning.specs.Books.{Book}
use Rattle.meaning.specs.Calls.{largest_place, fed}
use Rattle.running.specs.Layout.{running_size}
use Rattle.running.proofs.Held.{running_once}
use Rattle.std.specs.Prelude.{Ok, Err}
use Rattle.scanner.specs.Answers.{Begun, Fed, took, memory_number, feed_number, begun_number, Said, said}
use Rattle.scanner.specs.Exact.{BeginEnd, FeedEnd}
use Rattle.scanner.specs.Meant.{RunningOf, PastKept, BeginDone, FeedRefused, FeedDone, FeedRight}
use Rattle.scanner.specs.Promised.{BeginPromise, FeedPromise}
use Rattle.scanner.specs.declared.refusals.MemoryError.TheVariants.{TooSmall, NotPassed}
use Rattle.scanner.specs.declared.refusals.FeedError.TheVariants.{Memory, NoRoom, TooLong}

-- ── Two cases of an answer never say the same ──

-- The case that says a number.
begun_by : ℕ → Begun
begun_by number = cond (eqb number 0) (Ok tt) (cond (eqb number 1) (Err TooSmall) (Err NotPassed))

begun_by_lem : (answer : Begun) → begun_by (begun_number answer) ≡ answer
unfolding memory_number begun_number begun_by
begun_by_lem (Ok done) = refl
begun_by_lem (Err TooSmall) = refl
begun_by_lem (Err NotPassed) = refl

pub begun_once : (first second : Begun) → begun_number first ≡ begun_number second → first ≡ second
begun_once first second e = sym (begun_by_lem first) ∙ ap begun_by e ∙ begun_by_lem second

-- The case that says these numbers.
fed_by : Said → Fed
fed_by says =
    cond (eqb says.number 0) (Ok (took says.taken says.reports says.steps))
    (cond (eqb says.number 1) (Err (Memory TooSmall))
    (cond (eqb says.number 12) (Err (Memory NotPassed))
    (cond (eqb says.number 10) (Err NoRoom) (Err TooLong))))

fed_by_lem : (answer : Fed) → fed_by (said answer) ≡ answer
unfolding memory_number feed_number said fed_by
fed_by_lem (Ok came) = refl
fed_by_lem (Err (Memory TooSmall)) = refl
fed_by_lem (Err (Memory NotPassed)) = refl
fed_by_lem (Err NoRoom) = refl
fed_by_lem (Err TooLong) = refl

pub fed_once : (first second : Fed) → said first ≡ said second → first ≡ second
fed_once first second e = sym (fed_by_lem first) ∙ ap fed_by e ∙ fed_by_lem second

-- ── The running memory ──

-- Two memories that are the book's after the same bytes, and past the size are both as they were, are the same.
memory_once : (book : Book) (x m first second : List ℕ) → RunningOf book x first → RunningOf book x second → PastKept m first → PastKept m second → first ≡ second
memory_once book x m first second one other past also = ext_get_or 0 first second (past.0 ∙ sym also.0) each
  where
    each : (i : ℕ) → i < length first → get_or first i 0 ≡ get_or second i 0
    each i inside = ⊎_elim
        (λ (l : i < running_size). running_once book x first second one.bytes other.bytes one.laid other.laid i (omega arith) l)
        (λ (l : running_size ≤ i). past.1 i l ∙ sym (also.1 i l))
        (lt_or_le i running_size)

-- ── Begin ──

pub begin_once : (book : Book) (m : List ℕ) (first second : BeginEnd) → BeginDone book m first → BeginDone book m second → first ≡ second
begin_once book m first second one other = ap₂ {C = BeginEnd} (λ answer memory. record { answer = answer; memory = memory })
    (begun_once first.answer second.answer (one.number ∙ sym other.number))
    (memory_once book [] m first.memory second.memory one.memory other.memory one.past other.past)

pub begin_exact_once : (t m : List ℕ) (first second : BeginEnd) → BeginPromise t m first → BeginPromise t m second → first ≡ second
begin_exact_once t m first second one other = one.exact ∙ sym other.exact

-- ── Feed ──

same_end : (first second : FeedEnd) → first.answer ≡ second.answer → first.memory ≡ second.memory → first.room ≡ second.room → first ≡ second
same_end first second a b c =
    ap₂ {C = FeedEnd} (λ answer memory. record { answer = answer; memory = memory; room = first.room }) a b
    ∙ ap {B = FeedEnd} (λ (room : List ℕ). record { answer = second.answer; memory = second.memory; room = room }) c

refused_once : (number : ℕ) (m room : List ℕ) (first second : FeedEnd) → FeedRefused number m room first → FeedRefused number m room second → first ≡ second
refused_once number m room first second one other = same_end first second
    (fed_once first.answer second.answer (one.says ∙ sym other.says))
    (one.memory_kept ∙ sym other.memory_kept)
    (one.room_kept ∙ sym other.room_kept)

done_once : (book : Book) (x m part room : List ℕ) (first second : FeedEnd) → FeedDone book x m part room first → FeedDone book x m part room second → first ≡ second
done_once book x m part room first second one other = same_end first second
    (fed_once first.answer second.answer (one.says ∙ sym other.says))
    (memory_once book (x ++ take (fed book x part (length room / 2)).taken part) m first.memory second.memory one.memory other.memory one.past other.past)
    (one.written ∙ sym other.written)

-- The meaning alone leaves no second answer, no second byte of the running memory and no second number of the room.
pub feed_once : (book : Book) (x m part room : List ℕ) (first second : FeedEnd) → FeedRight book x m part room first → FeedRight book x m part room second → first ≡ second
feed_once book x m part room first second one other = ⊎_elim
    (λ (l : length room / 2 < length book.phrases). refused_once 10 m room first second (one.no_room l) (other.no_room l))
    (λ (roomy : length book.phrases ≤ length room / 2). ⊎_elim
    (λ (l : largest_place < length x + length part). refused_once 11 m room first second (one.too_long roomy l) (other.too_long roomy l))
    (λ (l : length x + length part ≤ largest_place). done_once book x m part room first second (one.done roomy l) (other.done roomy l))
    (lt_or_le largest_place (length x + length part)))
    (lt_or_le (length room / 2) (length book.phrases))

pub feed_exact_once : (t m part room : List ℕ) (first second : FeedEnd) → FeedPromise t m part room first → FeedPromise t m part room second → first ≡ second
feed_exact_once t m part room first second one other = one.exact ∙ sym other.exact
