-- A call takes what the rule of document 01 says, with the reports and steps of the definitions: each byte does, and the rest of the part
-- does from there on.
-- Assumes nothing.
use mathlib.Core.Path.{◌≡◌, refl, sym, subst, ap, ◌∙◌}
use mathlib.Core.Bool.{Bool, true, false, cond}
use mathlib.Core.List.{List, [], ◌∷◌, ◌++◌, append-nil}
use Prim.Native.Nat.{ℕ, suc, ◌+◌, ◌-◌, ◌≤◌, ◌<◌}
use native.Mathlib.Numerals.{add-one}
use native.Mathlib.Omega.{arith}
use lib.Dec.{ltb, leb}
use lib.ListN.{length, take, get_or, length-append}
use lib.Seq.{append_snoc}
use borrow.Author.Tests.{ltb-true, ltb-false, le-leb, lt-leb}
use Rattle.lent.specs.Numbers.{Bytes}
use Rattle.meaning.specs.Books.{Book}
use Rattle.meaning.specs.Reports.{Report, reports_at}
use Rattle.meaning.specs.Automaton.{is_state, after, depth}
use Rattle.meaning.specs.Calls.{reports_after, steps_after, takes}
use Rattle.format.specs.Limits.{Within}
use Rattle.numbering.specs.States.{number_in}
use Rattle.tables.specs.Regions.{Laid}
use Rattle.tables.specs.Layout.{tables_layout}
use Rattle.tables.specs.Reads.{state_count_in, dense_in, phrase_count_in, depth_in, gain_in}
use Rattle.tables.proofs.Fields.{phrase_count_laid}
use Rattle.seeking.specs.Quick.{quick_in}
use Rattle.seeking.proofs.Laid.{quick_after, depth_after, steps_paid}
use Rattle.marks.specs.Reported.{Reports}
use Rattle.window.specs.Happened.{happened}
use Rattle.window.proofs.Happened.{happened_long, happened_few}
use Rattle.window.specs.Places.{Elsewhere}
use Rattle.tracking.specs.Reports.{with_these}
use Rattle.window.proofs.Step.{elsewhere_step, bytes_step}
use Rattle.tracking.proofs.Byte.{happened_windows, happened_reports}
use Rattle.feeding.specs.Taken.{Run, byte_taken, free_after, part_taken, steps_of, steps_since}
use Rattle.feeding.specs.Right.{Stands, Came}
use Rattle.feeding.proofs.Reports.{these_none, these_append}

module _ (book : Book) (limits : Within book) (t : List ℕ) (laid : Laid (tables_layout book) t) (tables_bytes : Bytes t) (room : ℕ) where
  -- One byte.
  module _ (x : List ℕ) (a : ℕ) (early : suc (length x) < 4294967296) (run : Run) (stands : Stands book x room run) where
    abbrev now : List ℕ
    now = x ++ a ∷ []

    abbrev state : ℕ
    state = number_in book (after (is_state book) now)

    abbrev due : List Report
    due = reports_at book now (suc (length x))

    abbrev next : Run
    next = record {
      state = state;
      place = suc (length x);
      taken = run.taken + 1;
      gains = run.gains + gain_in t state;
      here = happened t state (suc (length x)) run.here;
    }

    byte_right : byte_taken t run a ≡ next
    unfolding byte_taken
    byte_right =
        let step : quick_in t (state_count_in t) (dense_in t) run.state a ≡ state =
        ap (λ (i : ℕ). quick_in t (state_count_in t) (dense_in t) i a) stands.state ∙ quick_after book limits t laid x a in
        let place : run.place + 1 ≡ suc (length x) = omega (arith, stands.place) in
        rw (step, place)

    next_reports : next.here.reports ≡ with_these due run.here.reports
    next_reports = happened_reports book limits t laid tables_bytes x a early run.here stands.whole stands.windows

    next_count : next.here.reports.written ≡ run.here.reports.written + length due
    unfolding with_these
    next_count = ap (λ (r : Reports). r.written) next_reports

    next_elsewhere : (i : ℕ) → Elsewhere i → get_or next.here.memory i 0 ≡ get_or run.here.memory i 0
    unfolding happened
    next_elsewhere i there = elsewhere_step book limits t laid tables_bytes x a early run.here.memory stands.whole stands.windows i there

    next_bytes : Bytes next.here.memory
    unfolding happened
    next_bytes = bytes_step book limits t laid tables_bytes x a early run.here.memory stands.whole stands.windows stands.bytes

    next_stands : length book.phrases ≤ room - run.here.reports.written → Stands book now room next
    next_stands free = record {
      state = refl;
      place = rw (length-append x (a ∷ []), add-one);
      whole = rw (happened_long t state (suc (length x)) run.here) stands.whole;
      bytes = next_bytes;
      windows = happened_windows book limits t laid tables_bytes x a early run.here stands.whole stands.windows;
      few = omega (arith, happened_few t state (suc (length x)) run.here, phrase_count_laid book limits t laid, stands.few);
    }

  none_came : (x part : List ℕ) (run : Run) → Stands book x room run → Came book x part room 0 run run
  unfolding steps_after reports_after
  none_came x part run stands = record {
    stands = rw append-nil stands;
    taken = omega arith;
    steps = rw append-nil (omega arith);
    reports = sym (these_none run.here.reports);
    elsewhere = λ i there. refl;
    long = refl;
  }

  -- One byte, and then some of those behind it.
  more_came : (x : List ℕ) (a : ℕ) (rest : List ℕ) (run to : Run) (count : ℕ) (early : suc (length x) < 4294967296) (stands : Stands book x room run)
      → Came book (x ++ a ∷ []) rest room count (next x a early run stands) to → Came book x (a ∷ rest) room (suc count) run to
  unfolding steps_after reports_after
  more_came x a rest run to count early stands came =
      let later : List ℕ = take count rest in
      record {
        stands = subst (λ (z : List ℕ). Stands book z room to) (append_snoc x a later) came.stands;
        taken = omega (arith, came.taken);
        steps = omega (
          arith,
          came.steps,
          steps_paid book limits t laid x a,
          ap (λ (z : List ℕ). depth (is_state book) (after (is_state book) z)) (append_snoc x a later),
        );
        reports = came.reports ∙ ap (with_these (reports_after book (x ++ a ∷ []) later)) (next_reports x a early run stands)
            ∙ sym (these_append (due x a early run stands) (reports_after book (x ++ a ∷ []) later) run.here.reports);
        elsewhere = λ i there. came.elsewhere i there ∙ next_elsewhere x a early run stands i there;
        long = came.long ∙ happened_long t (state x a early run stands) (suc (length x)) run.here;
      }

  -- A part: what is taken of it is what the rule says.
  pub part_right : (part x : List ℕ) (run : Run) → Stands book x room run → length x + length part < 4294967296
      → Came book x part room (takes book x part (room - run.here.reports.written)) run (part_taken t room part run)
  unfolding part_taken takes
  part_right [] x run stands early = none_came x [] run stands
  part_right (a ∷ part) x run stands early =
      go (ltb (free_after room run) (phrase_count_in t)) refl (part_right part)
    where
      free : ℕ
      free = room - run.here.reports.written

      phrases : ℕ
      phrases = length book.phrases

      left : ℕ
      left = free - length (reports_at book (x ++ a ∷ []) (suc (length x)))

      count : ℕ
      count = takes book (x ++ a ∷ []) part left

      go : (v : Bool) → ltb (free_after room run) (phrase_count_in t) ≡ v
          → ((x : List ℕ) (run : Run) → Stands book x room run → length x + length part < 4294967296
          → Came book x part room (takes book x part (room - run.here.reports.written)) run (part_taken t room part run))
          → Came book x (a ∷ part) room (cond (leb phrases free) (suc count) 0) run (cond v run (part_taken t room part (byte_taken t run a)))
      go true e rec =
          let full : free < phrases = omega (arith, phrase_count_laid book limits t laid, ltb-true (free_after room run) (phrase_count_in t) e) in
          rw (lt-leb phrases free full) (none_came x (a ∷ part) run stands)
      go false e rec =
          let fits : phrases ≤ free = omega (arith, phrase_count_laid book limits t laid, ltb-false (free_after room run) (phrase_count_in t) e) in
          rw (le-leb phrases free fits) (taken fits (omega arith))
        where
          taken : phrases ≤ free → (soon : suc (length x) < 4294967296) → Came book x (a ∷ part) room (suc count) run (part_taken t room part (byte_taken t run a))
          taken fits soon =
              let after : Run = next x a soon run stands in
              let less : room - after.here.reports.written ≡ left = omega (arith, next_count x a soon run stands) in
              let came : Came book (x ++ a ∷ []) part room count after (part_taken t room part after) =
              subst (λ (f : ℕ). Came book (x ++ a ∷ []) part room (takes book (x ++ a ∷ []) part f) after (part_taken t room part after)) less
              (rec (x ++ a ∷ []) after (next_stands x a soon run stands fits) (rw length-append (omega arith))) in
              subst (λ (r : Run). Came book x (a ∷ part) room (suc count) run (part_taken t room part r)) (sym (byte_right x a soon run stands))
              (more_came x a part run (part_taken t room part after) count soon stands came)

  -- The failure steps of a run that began with none are those of the bytes taken.
  pub steps_right : (x part : List ℕ) (count : ℕ) (first run : Run) → first.state ≡ number_in book (after (is_state book) x) → first.taken ≡ 0 → first.gains ≡ 0
      → Came book x part room count first run → steps_since t first.state run ≡ steps_after book x (take count part)
  unfolding steps_of
  steps_right x part count first run state none nothing came =
      omega (
        arith,
        came.steps,
        came.taken,
        ap (depth_in t) state ∙ depth_after book limits t laid x,
        ap (depth_in t) came.stands.state ∙ depth_after book limits t laid (x ++ take count part),
      )
