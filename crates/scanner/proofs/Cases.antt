-- Begin and feed, case by case in the order of the refusals.
-- Assumes nothing.
use mathlib.Core.Path.{◌≡◌, ap}
use mathlib.Core.Bool.{true, false}
use mathlib.Core.List.{List}
use Prim.Native.Nat.{ℕ, ◌-◌, ◌/◌, ◌≤◌, ◌<◌}
use native.Mathlib.Omega.{arith}
use lib.ListN.{length}
use borrow.Author.Tests.{lt-ltb, le-ltb}
use Rattle.meaning.specs.Calls.{largest_place}
use Rattle.lent.specs.Numbers.{with_number}
use Rattle.tables.specs.Reads.{phrase_count_in, mark_in}
use Rattle.tables.specs.Passing.{tables_pass}
use Rattle.tables.proofs.Passing as tables
use Rattle.running.specs.Layout.{tag_at, state_at, place_at, mark_at, running_tag}
use Rattle.window.specs.Begun.{windows_begun}
use Rattle.tracking.specs.Head.{begun_with, moved_to}
use Rattle.feeding.specs.declared.Progress.{Progress}
use Rattle.feeding.specs.Taken.{at_start, run_of, part_taken, steps_since}
use Rattle.feeding.specs.Ready.{Ready}
use Rattle.scanner.specs.Passing.{state_held, place_held, too_small, running_pass}
use Rattle.std.specs.Prelude.{Result, Ok, Err, IsErrAnd}
use Rattle.scanner.specs.Exact.{MemoriesChecked, begun_well, begin_refused, begin_of, feed_refused, answer_after, memory_after, took_from, feed_of, Taking}
use Rattle.scanner.specs.declared.refusals.MemoryError.{MemoryError}
use Rattle.scanner.specs.declared.refusals.MemoryError.TheVariants.{TooSmall, NotPassed}
use Rattle.scanner.specs.declared.refusals.FeedError.TheVariants.{Memory, NoRoom, TooLong}
use Rattle.scanner.proofs.Passing.{whole, passed}

-- An error that is passed on is what is answered.
pub passed_on : {T E : Type 0} (answer : Result T E) (why : E) → IsErrAnd answer (λ error. error ≡ why) → answer ≡ Err why
passed_on (Ok value) why is = absurd is
passed_on (Err error) why is = ap Err is

module _ (t m : List ℕ) where
  pub begin_small : too_small t m ≡ true → begin_of t m ≡ begin_refused TooSmall m
  unfolding begin_of
  begin_small e = rw e

  pub begin_not_tables : too_small t m ≡ false → tables_pass t ≡ false → begin_of t m ≡ begin_refused NotPassed m
  unfolding begin_of
  begin_not_tables e p = rw (e, p)

  pub begin_done : too_small t m ≡ false → tables_pass t ≡ true → begin_of t m ≡ begun_well (begun_with t m)
  unfolding begin_of
  begin_done e p = rw (e, p)

  -- What is refused of the memories is what begin refuses.
  pub begin_checked : (why : MemoryError) → MemoriesChecked t m (Err why) → begin_of t m ≡ begin_refused why m
  unfolding MemoriesChecked
  begin_checked TooSmall small = begin_small small
  begin_checked NotPassed fails = begin_not_tables fails.0 fails.1

-- The windows, the mark and the tag, stored one after the other, are begun memory.
pub begun_stored : (t m m₁ m₂ m₃ : List ℕ) (mark : ℕ)
    → m₁ ≡ windows_begun t m
    → mark ≡ mark_in t
    → m₂ ≡ with_number 8 m₁ mark_at mark
    → m₃ ≡ with_number 8 m₂ tag_at running_tag
    → m₃ ≡ begun_with t m
unfolding begun_with
begun_stored t m m₁ m₂ m₃ mark windows read marked tagged = rw (tagged, marked, read, windows)

-- State and place, stored one after the other, are the memory moved to them.
pub moved_stored : (m m₁ m₂ : List ℕ) (state place number bytes : ℕ)
    → number ≡ state
    → m₁ ≡ with_number 2 m state_at number
    → bytes ≡ place
    → m₂ ≡ with_number 8 m₁ place_at bytes
    → m₂ ≡ moved_to m state place
unfolding moved_to
moved_stored m m₁ m₂ state place number bytes p stored q then = rw (then, stored, p, q)

-- What the code carries along, written down, is what was taken.
pub took_from_lem : (t m part room : List ℕ) (state place : ℕ) (progress : Progress) (m₁ room₁ m₂ : List ℕ) (steps : ℕ)
    → run_of progress m₁ room₁ ≡ part_taken t (length room / 2) part (at_start state place m room)
    → m₂ ≡ memory_after (run_of progress m₁ room₁) state place
    → steps ≡ steps_since t state (run_of progress m₁ room₁)
    → record { answer = answer_after steps (run_of progress m₁ room₁); memory = m₂; room = room₁ } ≡ took_from t m part room state place
unfolding took_from
took_from_lem t m part room state place progress m₁ room₁ m₂ steps run moved counted = rw (← run, moved, counted)

module _ (t m part room : List ℕ) where
  pub feed_small : too_small t m ≡ true → feed_of t m part room ≡ feed_refused (Memory TooSmall) m room
  unfolding feed_of
  feed_small e = rw e

  module _ (large : too_small t m ≡ false) where
    pub feed_not_tables : tables_pass t ≡ false → feed_of t m part room ≡ feed_refused (Memory NotPassed) m room
    unfolding feed_of
    feed_not_tables p = rw (large, p)

    module _ (tables_pass_lem : tables_pass t ≡ true) where
      pub feed_not_running : running_pass t m ≡ false → feed_of t m part room ≡ feed_refused (Memory NotPassed) m room
      unfolding feed_of
      feed_not_running q = rw (large, tables_pass_lem, q)

      module _ (running_pass_lem : running_pass t m ≡ true) where
        pub feed_no_room : length room / 2 < phrase_count_in t → feed_of t m part room ≡ feed_refused NoRoom m room
        unfolding feed_of
        feed_no_room h = rw (large, tables_pass_lem, running_pass_lem, lt-ltb (length room / 2) (phrase_count_in t) h)

        module _ (roomy : phrase_count_in t ≤ length room / 2) where
          pub feed_too_long : largest_place - place_held m < length part → feed_of t m part room ≡ feed_refused TooLong m room
          unfolding feed_of
          feed_too_long h = rw (large, tables_pass_lem, running_pass_lem, le-ltb (length room / 2) (phrase_count_in t) roomy, lt-ltb (largest_place - place_held m) (length part) h)

          module _ (short : length part ≤ largest_place - place_held m) where
            pub feed_takes : feed_of t m part room ≡ took_from t m part room (state_held m) (place_held m)
            unfolding feed_of
            feed_takes = rw (large, tables_pass_lem, running_pass_lem, le-ltb (length room / 2) (phrase_count_in t) roomy, le-ltb (largest_place - place_held m) (length part) short)

            -- Then all holds that the taking of bytes wants.
            pub feed_ready : Ready t m (length part) (state_held m) (place_held m)
            feed_ready =
                let head = passed t m running_pass_lem in
                let counts = (tables.pass_iff t).0 tables_pass_lem in
                record {
                  memory = (whole t m large).1;
                  states = counts.states.1;
                  some_dense = counts.dense.0;
                  few_dense = counts.dense.1;
                  phrases = counts.phrases.1;
                  inside = head.state;
                  early = omega (arith, head.place);
                }

            pub feed_taking : Taking t m part room (feed_of t m part room)
            feed_taking = record { is = feed_takes; tables = (whole t m large).0; ready = feed_ready }

  -- And what feed refuses first.
  pub feed_checked : (why : MemoryError) → MemoriesChecked t m (Err why) → feed_of t m part room ≡ feed_refused (Memory why) m room
  unfolding MemoriesChecked
  feed_checked TooSmall small = feed_small small
  feed_checked NotPassed fails = feed_not_tables fails.0 fails.1
