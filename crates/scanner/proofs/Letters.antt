-- A letter in any parts: each call adds the reports and steps of the bytes that it takes, a refused one none, and leaves the memory of all
-- bytes taken for the next. So the parts come to what the letter comes to.
-- Assumes nothing.
use mathlib.Core.Path.{◌≡◌, refl, sym, ap, ap₂, ◌∙◌}
use mathlib.Core.Logic.{⊎_elim}
use mathlib.Core.List.{List, [], ◌∷◌, ◌++◌, append-nil, append_assoc}
use Prim.Native.Nat.{ℕ, zero, suc, ◌+◌, ◌*◌, ◌/◌, ◌≤◌, ◌<◌}
use native.Mathlib.Numerals.{add-one}
use native.Mathlib.Omega.{arith}
use lib.ListN.{length, take, drop, get_or}
use lib.Seq.{drop-cons}
use Rattle.lent.specs.Numbers.{Bytes, bytes_at, with_bytes}
use Rattle.lent.proofs.Bytes.{length_with_bytes, bytes_written}
use Rattle.lent.proofs.Cases.{lt_or_le}
use Rattle.meaning.specs.Books.{Book}
use Rattle.meaning.specs.Reports.{Report, reports}
use Rattle.meaning.specs.Automaton.{steps}
use Rattle.meaning.specs.Calls.{largest_place, reports_after, steps_after, fed}
use Rattle.meaning.proofs.Cuts.{reports_cut, steps_cut, reports_after_cut, steps_after_cut}
use Rattle.meaning.proofs.Depth.{steps_at_most}
use Rattle.meaning.proofs.Taking.{takes_fits}
use Rattle.running.specs.Layout.{running_size}
use Rattle.tracking.specs.Reports.{in_room}
use Rattle.feeding.proofs.Reports.{length_in_room, in_room_append}
use Rattle.scanner.specs.Answers.{Said, said}
use Rattle.scanner.specs.Exact.{begin_of, FeedEnd, feed_of}
use Rattle.scanner.specs.Meant.{TablesOf, RunningOf, FeedRefused, FeedDone, FeedRight}
use Rattle.scanner.specs.Letters.{Call, Came, feeds_of, GoesOn, LetterRead}
use Rattle.scanner.proofs.Begins.{begin_means}
use Rattle.scanner.proofs.Feeds.{feed_means}

-- ── The numbers written first are read off first ──

bytes_taken_lem : (n : ℕ) (s : List ℕ) (i : ℕ) → i + n ≤ length s → take n (drop i s) ≡ bytes_at n s i
unfolding bytes_at
bytes_taken_lem zero s i room = refl
bytes_taken_lem (suc n) s i room =
    rw (drop-cons s i 0 (omega arith))
    (ap (λ (l : List ℕ). get_or s i 0 ∷ l) (ap (λ (j : ℕ). take n (drop j s)) (sym (add-one i)) ∙ bytes_taken_lem n s (i + 1) (omega arith)))

written_first : (room these : List ℕ) → length these ≤ length room → take (length these) (with_bytes room 0 these) ≡ these
written_first room these fits =
    bytes_taken_lem (length these) (with_bytes room 0 these) 0 (rw (length_with_bytes room 0 these) (omega arith))
    ∙ bytes_written room 0 these (omega arith)

-- ── One call ──

-- What one call says and leaves, after the bytes x, whether it was refused or not.
record CallRight (book : Book) (x part : List ℕ) (says : Said) (end : FeedEnd) : Type 0 where
  memory : RunningOf book (x ++ take says.taken part) end.memory
  reports : take (2 * says.reports) end.room ≡ in_room (reports_after book x (take says.taken part))
  steps : says.steps ≡ steps_after book x (take says.taken part)

module _ (book : Book) (t : List ℕ) (tables : TablesOf book t) where
  call_refused : (x m part room : List ℕ) (number : ℕ) (end : FeedEnd) → RunningOf book x m → FeedRefused number m room end → CallRight book x part (said end.answer) end
  unfolding reports_after steps_after in_room
  call_refused x m part room number end running refused = rw refused.says (record {
    memory = rw (append-nil, refused.memory_kept) running;
    reports = refl;
    steps = refl;
  })

  call_done : (x m part room : List ℕ) (end : FeedEnd) → FeedDone book x m part room end → CallRight book x part (said end.answer) end
  unfolding fed
  call_done x m part room end done =
      let hits : List Report = (fed book x part (length room / 2)).hits in
      rw done.says (record {
        memory = done.memory;
        reports = ap (λ (n : ℕ). take n end.room) (sym (length_in_room hits)) ∙ ap (take (length (in_room hits))) done.written
            ∙ written_first room (in_room hits) (omega (arith, length_in_room hits, takes_fits book x part (length room / 2)));
        steps = refl;
      })

  call_right : (x m part room : List ℕ) → RunningOf book x m → CallRight book x part (said (feed_of t m part room).answer) (feed_of t m part room)
  call_right x m part room running =
      let means : FeedRight book x m part room (feed_of t m part room) = feed_means book x t m tables running part room in
      ⊎_elim
      (λ (l : length room / 2 < length book.phrases). call_refused x m part room 10 (feed_of t m part room) running (means.no_room l))
      (λ (roomy : length book.phrases ≤ length room / 2). ⊎_elim
      (λ (l : largest_place < length x + length part). call_refused x m part room 11 (feed_of t m part room) running (means.too_long roomy l))
      (λ (l : length x + length part ≤ largest_place). call_done x m part room (feed_of t m part room) (means.done roomy l))
      (lt_or_le largest_place (length x + length part)))
      (lt_or_le (length room / 2) (length book.phrases))

  -- ── Any calls ──

  pub calls_right : (calls : List Call) (x m : List ℕ) → RunningOf book x m → GoesOn book x (feeds_of t m calls)
  unfolding feeds_of reports_after steps_after in_room
  calls_right [] x m running = record { memory = rw append-nil running; reports = refl; steps = refl }
  calls_right (call ∷ rest) x m running =
      together (feed_of t m call.part call.room) (call_right x m call.part call.room running) (calls_right rest)
    where
      together : (end : FeedEnd) → CallRight book x call.part (said end.answer) end → ((x m : List ℕ) → RunningOf book x m → GoesOn book x (feeds_of t m rest))
          → GoesOn book x (record {
            memory = (feeds_of t end.memory rest).memory;
            read = take (said end.answer).taken call.part ++ (feeds_of t end.memory rest).read;
            written = take (2 * (said end.answer).reports) end.room ++ (feeds_of t end.memory rest).written;
            steps = (said end.answer).steps + (feeds_of t end.memory rest).steps;
          })
      together end right onward =
          let y : List ℕ = take (said end.answer).taken call.part in
          let later : GoesOn book (x ++ y) (feeds_of t end.memory rest) = onward (x ++ y) end.memory right.memory in
          let z : List ℕ = (feeds_of t end.memory rest).read in
          record {
            memory = rw (← append_assoc x y z) later.memory;
            reports = ap₂ ◌++◌ right.reports later.reports
                ∙ sym (ap in_room (reports_after_cut book x y z) ∙ in_room_append (reports_after book x y) (reports_after book (x ++ y) z));
            steps = omega (arith, right.steps, later.steps, steps_after_cut book x y z);
          }

  -- ── From begin on ──

  -- Begin, and then any calls, with any parts and any rooms: the reports joined and the steps added up are those of the bytes taken.
  pub letter_read : (m : List ℕ) → running_size ≤ length m → Bytes m → (calls : List Call) → LetterRead book (feeds_of t (begin_of t m).memory calls)
  unfolding reports steps
  letter_read m long bytes calls =
      let came : Came = feeds_of t (begin_of t m).memory calls in
      let right : GoesOn book [] came = calls_right calls [] (begin_of t m).memory (begin_means book t m tables long bytes).memory in
      let all_steps : came.steps ≡ steps book came.read = omega (arith, right.steps, steps_cut book [] came.read) in
      record {
        memory = right.memory;
        reports_joined = right.reports ∙ ap in_room (sym (reports_cut book [] came.read));
        steps_added = all_steps;
        steps_at_most = omega (arith, all_steps, steps_at_most book came.read);
      }
