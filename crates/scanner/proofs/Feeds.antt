-- On the memory of a book after x, feed takes what the rule says, and leaves the book's memory after x and the bytes taken: the bytes are
-- taken right, and state and place are written.
-- Assumes nothing.
use mathlib.Core.Path.{◌≡◌, refl, sym, subst, ap, ap₂, ◌∙◌}
use mathlib.Core.Logic.{◌⊎◌, inl, inr}
use mathlib.Core.Bool.{Bool, true, false, So}
use mathlib.Core.List.{List, ◌++◌}
use Prim.Native.Nat.{ℕ, ◌+◌, ◌-◌, ◌/◌, ◌≤◌, ◌<◌}
use native.Mathlib.Omega.{arith}
use lib.ListN.{length, take, get_or, length-append, length-take}
use Rattle.lent.specs.Numbers.{Bytes, with_number}
use Rattle.lent.proofs.Numbers.{length_with_number, number_byte_apart, number_bytes_kept}
use Rattle.meaning.specs.Books.{Book}
use Rattle.meaning.specs.Automaton.{is_state, after}
use Rattle.meaning.specs.Calls.{largest_place, takes, fed}
use Rattle.meaning.proofs.States.{is_state_closed}
use Rattle.meaning.proofs.After.{after_state}
use Rattle.numbering.specs.States.{number_in}
use Rattle.numbering.proofs.Keywords.{within_bytes}
use Rattle.numbering.proofs.States.{number_below}
use Rattle.tables.specs.Regions.{Laid}
use Rattle.tables.specs.Layout.{tables_size}
use Rattle.tables.specs.Reads.{state_count_in, phrase_count_in}
use Rattle.tables.specs.Passing.{tables_pass}
use Rattle.tables.proofs.Passing.{laid_pass}
use Rattle.tables.proofs.Fields.{state_count_laid, phrase_count_laid, mark_laid}
use Rattle.running.specs.Layout.{running_size, running_layout, state_at, place_at}
use Rattle.running.specs.Reads.{WholeRunning}
use Rattle.running.specs.Held.{Held}
use Rattle.running.proofs.Held.{laid_held}
use Rattle.marks.specs.Reported.{Reports}
use Rattle.tracking.specs.Head.{moved_to}
use Rattle.tracking.specs.Reports.{with_these}
use Rattle.tracking.proofs.Head.{laid_moved}
use Rattle.feeding.specs.Taken.{Run, at_start, part_taken}
use Rattle.feeding.specs.Right.{Stands, Came}
use Rattle.feeding.proofs.Right.{part_right, steps_right}
use Rattle.scanner.specs.Answers.{memory_number, feed_number, Said, said}
use Rattle.scanner.specs.Passing.{too_small, running_pass}
use Rattle.scanner.specs.Exact.{FeedEnd, feed_refused, memory_after, took_from, feed_of}
use Rattle.scanner.specs.Meant.{TablesOf, RunningOf, PastKept, FeedDone, FeedRight}
use Rattle.scanner.specs.Promised.{FeedPromise}
use Rattle.scanner.specs.declared.refusals.MemoryError.TheVariants.{NotPassed}
use Rattle.scanner.specs.declared.refusals.FeedError.TheVariants.{Memory}
use Rattle.scanner.proofs.Passing.{small, large, passes}
use Rattle.scanner.proofs.Rule.{rule_feed}
use Rattle.scanner.proofs.Cases.{feed_small, feed_not_tables, feed_not_running, feed_no_room, feed_too_long, feed_takes}

same_said : {a b : Said} → a.number ≡ b.number → a.taken ≡ b.taken → a.reports ≡ b.reports → a.steps ≡ b.steps → a ≡ b
same_said {a} {b} n k r s =
    ap₂ {C = Said} (λ number taken. record { number = number; taken = taken; reports = a.reports; steps = a.steps }) n k
    ∙ ap₂ {C = Said} (λ reports steps. record { number = b.number; taken = b.taken; reports = reports; steps = steps }) r s

-- ── State and place written ──

module _ (m : List ℕ) (state place : ℕ) where
  pub length_moved : length (moved_to m state place) ≡ length m
  unfolding moved_to
  length_moved = length_with_number 8 (with_number 2 m state_at state) place_at place ∙ length_with_number 2 m state_at state

  pub moved_apart : (i : ℕ) → 32 ≤ i → get_or (moved_to m state place) i 0 ≡ get_or m i 0
  unfolding moved_to
  moved_apart i past = number_byte_apart 8 (with_number 2 m state_at state) place_at place i (inr (omega arith)) ∙ number_byte_apart 2 m state_at state i (inr (omega arith))

  pub moved_bytes : Bytes m → Bytes (moved_to m state place)
  unfolding moved_to
  moved_bytes h = number_bytes_kept 8 (with_number 2 m state_at state) place_at place (number_bytes_kept 2 m state_at state h)

module _ (book : Book) (x t m : List ℕ) (tables : TablesOf book t) (running : RunningOf book x m) where
  sized : WholeRunning m
  unfolding running_size
  sized = running.long

  held : Held book x m
  held = laid_held book x m running.laid

  abbrev state : ℕ
  state = number_in book (after (is_state book) x)

  -- ── The tests pass ──

  pub large_enough : too_small t m ≡ false
  large_enough = large t m tables.long running.long

  pub tables_pass_lem : So (tables_pass t)
  tables_pass_lem = laid_pass book tables.limits t tables.long tables.laid

  state_inside : state < state_count_in t
  state_inside = rw (state_count_laid book tables.limits t tables.laid)
      (number_below book (within_bytes book tables.limits) (after (is_state book) x) (after_state (is_state book) (is_state_closed book).empty x))

  -- Memory of the book passes test 12 beside the tables of the book.
  pub running_pass_lem : So (running_pass t m)
  running_pass_lem = passes t m (record {
    tables = tables.long;
    memory = running.long;
    tag = held.tag;
    state = rw held.state state_inside;
    place = rw held.place running.early;
    mark = held.mark ∙ sym (mark_laid book tables.limits t tables.laid);
  })

  -- ── A call that is not refused ──

  module _ (part room : List ℕ) (short : length x + length part ≤ largest_place) where
    abbrev free : ℕ
    free = length room / 2

    abbrev count : ℕ
    count = takes book x part free

    abbrev start : Run
    start = at_start state (length x) m room

    abbrev end : Run
    end = part_taken t free part start

    stands : Stands book x free start
    stands = record { state = refl; place = refl; whole = sized; bytes = running.bytes; windows = held.windows; few = omega arith }

    came : Came book x part free count start end
    came = let z : free - 0 ≡ free = omega arith in
        rw z at (part_right book tables.limits t tables.laid tables.bytes free part x start stands (omega arith))

    abbrev read : List ℕ
    read = x ++ take count part

    read_early : length read ≤ largest_place
    read_early = rw (length-append, length-take) (omega arith)

    memory_long : length (memory_after end state (length x)) ≡ length m
    memory_long = length_moved end.here.memory _ _ ∙ came.long

    -- The memory is the book's after the bytes read: the state and the place that are written are theirs, and so are the windows.
    memory_right : RunningOf book read (memory_after end state (length x))
    memory_right =
        let right = came.stands in
        record {
          early = read_early;
          long = rw memory_long running.long;
          laid = subst (λ (k : ℕ). Laid (running_layout book read) (moved_to end.here.memory k end.place)) (sym right.state)
              (subst (λ (k : ℕ). Laid (running_layout book read) (moved_to end.here.memory reached k)) (sym right.place)
              (laid_moved book tables.limits x read m end.here.memory right.whole right.bytes (omega (arith, read_early)) running.laid
              (λ i below. came.elsewhere i (inl below)) right.windows));
          bytes = moved_bytes end.here.memory _ _ right.bytes;
        }
      where
        reached : ℕ
        reached = number_in book (after (is_state book) read)

    memory_past : PastKept m (memory_after end state (length x))
    unfolding running_size
    memory_past = (memory_long, λ i above. moved_apart end.here.memory _ _ i (omega arith) ∙ came.elsewhere i (inr above))

    said_right : said (took_from t m part room state (length x)).answer ≡ record {
      number = 0;
      taken = (fed book x part free).taken;
      reports = length (fed book x part free).hits;
      steps = (fed book x part free).steps;
    }
    unfolding took_from said fed with_these
    said_right = same_said refl (omega (arith, came.taken)) (omega (arith, ap (λ (r : Reports). r.written) came.reports))
        (steps_right book tables.limits t tables.laid tables.bytes free x part count start end refl refl refl came)

    -- What was taken, exactly, is what the definition says.
    taken_right : FeedDone book x m part room (took_from t m part room state (length x))
    unfolding took_from fed with_these
    taken_right = record {
      says = said_right;
      written = ap (λ (r : Reports). r.room) came.reports;
      memory = memory_right;
      past = memory_past;
    }

  -- ── Refused or not ──

  module _ (part room : List ℕ) where
    phrases : phrase_count_in t ≡ length book.phrases
    phrases = phrase_count_laid book tables.limits t tables.laid

    feed_done : length book.phrases ≤ length room / 2 → length x + length part ≤ largest_place → FeedDone book x m part room (feed_of t m part room)
    feed_done roomy short =
        rw (feed_takes t m part room large_enough tables_pass_lem running_pass_lem (rw phrases roomy) (rw held.place (omega arith)), held.state, held.place)
        (taken_right part room short)

    pub feed_means : FeedRight book x m part room (feed_of t m part room)
    unfolding memory_number feed_number said
    feed_means = record {
      no_room = λ h. rw (feed_no_room t m part room large_enough tables_pass_lem running_pass_lem (rw phrases h)) (record { says = refl; memory_kept = refl; room_kept = refl });
      too_long = λ roomy h. rw (feed_too_long t m part room large_enough tables_pass_lem running_pass_lem (rw phrases roomy) (rw held.place (omega (arith, running.early))))
          (record { says = refl; memory_kept = refl; room_kept = refl });
      done = feed_done;
    }

-- ── All that feed promises follows from what it does exactly ──

pub feed_promised : (t m part room : List ℕ) (end : FeedEnd) → end ≡ feed_of t m part room → FeedPromise t m part room end
unfolding memory_number feed_number said
feed_promised t m part room end e = rw e (record {
  exact = refl;
  small = λ h. rw (feed_small t m part room (small t m h)) (record { says = refl; memory_kept = refl; room_kept = refl });
  not_tables = λ a b h. rw (refused a b (tables_pass t) refl h) (record { says = refl; memory_kept = refl; room_kept = refl });
  rule = λ h. rule_feed t m part room h;
  means = λ book x tables running. feed_means book x t m tables running part room;
})
  where
    refused : tables_size ≤ length t → running_size ≤ length m → (v : Bool) → tables_pass t ≡ v → (tables_pass t ≡ false) ⊎ (running_pass t m ≡ false)
        → feed_of t m part room ≡ feed_refused (Memory NotPassed) m room
    refused a b false p h = feed_not_tables t m part room (large t m a b) p
    refused a b true p (inl q) = feed_not_tables t m part room (large t m a b) q
    refused a b true p (inr q) = feed_not_running t m part room (large t m a b) p q
