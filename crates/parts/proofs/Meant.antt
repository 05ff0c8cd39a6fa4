-- What list_part does on memory of a book follows from what feed does there: its answer is one of three, and its reports stand in the room.
-- Assumes nothing.
use mathlib.Core.Path.{◌≡◌, refl, sym, ap, subst, ◌∙◌}
use mathlib.Core.List.{List, [], ◌∷◌}
use Prim.Native.Nat.{ℕ, ◌+◌, ◌*◌, ◌/◌, ◌≤◌, ◌<◌}
use native.Mathlib.Omega.{arith}
use lib.ListN.{length, take, get_or, length-take}
use borrow.Author.Tests.{le-leb}
use Rattle.lent.specs.Numbers.{with_bytes}
use Rattle.lent.proofs.Bytes.{byte_written}
use Rattle.std.specs.Prelude.{Ok, Err}
use Rattle.meaning.specs.Books.{Book}
use Rattle.meaning.specs.Reports.{Report}
use Rattle.meaning.specs.Calls.{largest_place, takes, fed, reports_after, steps_after}
use Rattle.meaning.proofs.Taking.{takes_is, takes_fits}
use Rattle.tracking.specs.Reports.{in_room}
use Rattle.feeding.proofs.Reports.{length_in_room}
use Rattle.scanner.specs.declared.refusals.FeedError.TheVariants.{NoRoom, TooLong}
use Rattle.scanner.specs.Answers.{took, feed_number, said}
use Rattle.scanner.specs.Exact.{FeedEnd, feed_of}
use Rattle.scanner.specs.Meant.{TablesOf, RunningOf, FeedRefused, FeedDone, FeedRight}
use Rattle.scanner.proofs.Once.{fed_once}
use Rattle.scanner.proofs.Feeds.{feed_means}
use Rattle.listing.specs.Lines.{longest_line}
use Rattle.listing.specs.Writing.{Left, left}
use Rattle.listing.specs.Listing.{hit_lines}
use Rattle.listing.proofs.Whole.{first_bytes}
use Rattle.lines.specs.Answers.{listed_end}
use Rattle.lines.specs.Last.{text_of}
use Rattle.lines.specs.declared.answers.PartRefused.TheVariants as listed
use Rattle.lines.proofs.Ends.{hits_inside}
use Rattle.parts.specs.Exact.{ListEnd, hits_of, took_with, part_refused, listed_as, list_of}
use Rattle.parts.specs.Meant.{ListRefused, ListTook, ListRight}
use Rattle.parts.specs.Promised.{ListPromise}
use Rattle.parts.proofs.Lists.{listed_as_lem}
use Rattle.parts.proofs.Shown.{reports_show, hits_shown}

-- With room for every phrase a byte is taken where there is one.
takes_some : (book : Book) (x part : List ℕ) (room : ℕ) → length book.phrases ≤ room → 0 < length part → 0 < takes book x part room
unfolding takes
takes_some book x [] room roomy some = absurd (omega arith)
takes_some book x (a ∷ y) room roomy some = rw (le-leb (length book.phrases) room roomy) (omega arith)

module _ (book : Book) (x t m part room out : List ℕ) (tables : TablesOf book t) where
  abbrev count : ℕ
  count = takes book x part (length room / 2)

  abbrev hits : List Report
  hits = reports_after book x (take count part)

  abbrev failures : ℕ
  failures = steps_after book x (take count part)

  module _ (after : FeedEnd) (short : length x + length part ≤ largest_place) (roomy : length book.phrases ≤ length room / 2)
      (done : FeedDone book x m part room after) where
    hits_few : length hits ≤ length room / 2
    hits_few = takes_fits book x part (length room / 2)

    -- The room has the reports from its start on.
    in_room_lem : (k : ℕ) → k < 2 * length hits → get_or after.room (2 * 0 + k) 0 ≡ get_or (in_room hits) k 0
    unfolding fed
    in_room_lem k l =
        ap (λ (s : List ℕ). get_or s (2 * 0 + k) 0) done.written
        ∙ ap (λ (j : ℕ). get_or (with_bytes room 0 (in_room hits)) j 0) (omega arith)
        ∙ byte_written room 0 (in_room hits) k (omega (arith, length_in_room hits, hits_few)) (omega (arith, length_in_room hits))

    lines_shown : longest_line * (length room / 2) ≤ length out
        → hits_of t after.room (length hits) out ≡ left (with_bytes out 0 (hit_lines book hits)) (0 + length (hit_lines book hits))
    lines_shown wide = hits_shown book t tables hits
        (reports_show book tables.limits x (take count part) (omega (arith, length-take count part)))
        after.room out 0 0 in_room_lem (omega (arith, hits_few))

    shown_text : longest_line * (length room / 2) ≤ length out
        → text_of (hits_of t after.room (length hits) out) ≡ hit_lines book hits
    shown_text wide =
        let lines : Left = hits_of t after.room (length hits) out in
        let shown : lines ≡ left (with_bytes out 0 (hit_lines book hits)) (0 + length (hit_lines book hits)) = lines_shown wide in
        let ends : lines.next ≡ length (hit_lines book hits) = ap (λ (l : Left). l.next) shown ∙ omega arith in
        let inside : lines.next ≤ length out = (hits_inside t after.room (length out) 0 _ (left out 0) (record { long = refl; inside = omega arith })).inside in
        first_bytes out (hit_lines book hits) (omega (arith, inside, ends)) ends (ap (λ (l : Left). l.buffer) shown)

    took_right : ListTook book x part room out count (took_with t after.memory after.room out count (length hits) failures)
    unfolding took_with listed_end fed
    took_right = record {
      rule = refl;
      goes_on = takes_some book x part (length room / 2) roomy;
      offered = (takes_is book x part (length room / 2)).offered;
      says = refl;
      memory = done.memory;
      text = shown_text;
    }

  -- ── The three answers ──

  abbrev fed_end : FeedEnd
  fed_end = feed_of t m part room

  abbrev end : ListEnd
  end = list_of t m part room out

  list_took : length book.phrases ≤ length room / 2 → length x + length part ≤ largest_place → FeedDone book x m part room fed_end → ListTook book x part room out count end
  unfolding listed_as fed said
  list_took roomy short done =
      subst (ListTook book x part room out count)
      (listed_as_lem t m part room out fed_end refl (Ok (took count (length hits) failures)) (fed_once fed_end.answer (Ok (took count (length hits) failures)) done.says))
      (took_right fed_end short roomy done)

  list_no_room : FeedRefused 10 m room fed_end → (end.answer ≡ Err listed.NotTaken) × ListRefused m room out end
  unfolding listed_as part_refused said feed_number
  list_no_room refused =
      subst (λ (e : ListEnd). (e.answer ≡ Err listed.NotTaken) × ListRefused m room out e)
      (listed_as_lem t m part room out fed_end refl (Err NoRoom) (fed_once fed_end.answer (Err NoRoom) refused.says))
      (refl, record { memory_kept = refused.memory_kept; room_kept = refused.room_kept; out_kept = refl })

  list_too_long : FeedRefused 11 m room fed_end → (end.answer ≡ Err listed.TooLong) × ListRefused m room out end
  unfolding listed_as part_refused said feed_number
  list_too_long refused =
      subst (λ (e : ListEnd). (e.answer ≡ Err listed.TooLong) × ListRefused m room out e)
      (listed_as_lem t m part room out fed_end refl (Err TooLong) (fed_once fed_end.answer (Err TooLong) refused.says))
      (refl, record { memory_kept = refused.memory_kept; room_kept = refused.room_kept; out_kept = refl })

  pub list_means : RunningOf book x m → ListRight book x m part room out end
  list_means running =
      let means : FeedRight book x m part room fed_end = feed_means book x t m tables running part room in
      record {
        no_room = λ l. list_no_room (means.no_room l);
        too_long = λ roomy l. list_too_long (means.too_long roomy l);
        took = λ roomy short. (count, list_took roomy short (means.done roomy short));
      }

-- All that list_part promises follows from what it does exactly.
pub list_promised : (t m part room out : List ℕ) (ended : ListEnd) → ended ≡ list_of t m part room out → ListPromise t m part room out ended
list_promised t m part room out ended is = record {
  exact = is;
  means = λ book x tables running. subst (ListRight book x m part room out) (sym is) (list_means book x t m part room out tables running);
}
