-- Each way through list_part is one case of its definition, by what feed answers; and the reports that feed says stand in the room.
-- Assumes nothing.
use mathlib.Core.Path.{◌≡◌, refl, sym, ap, subst, ◌∙◌}
use mathlib.Core.Logic.{⊎_elim}
use mathlib.Core.Bool.{Bool, true, false, cond}
use mathlib.Core.List.{List, [], ◌∷◌}
use Prim.Native.Nat.{ℕ, ◌+◌, ◌*◌, ◌/◌, ◌≤◌}
use native.Mathlib.Omega.{arith}
use lib.Dec.{ltb}
use lib.ListN.{length}
use borrow.Author.Tests.{ltb-false}
use Rattle.std.specs.Prelude.{Ok, Err}
use Rattle.tables.specs.Layout.{room_for_phrases}
use Rattle.tables.specs.Reads.{Whole, state_count_in, dense_in, phrase_count_in}
use Rattle.seeking.specs.Quick.{quick_in}
use Rattle.window.proofs.Happened.{happened_few}
use Rattle.feeding.specs.Taken.{Run, at_start, byte_taken, free_after, part_taken}
use Rattle.scanner.specs.declared.Took.{Took}
use Rattle.scanner.specs.declared.refusals.FeedError.{FeedError}
use Rattle.scanner.specs.Answers.{Fed, said}
use Rattle.scanner.specs.Passing.{state_held, place_held}
use Rattle.scanner.specs.Exact.{FeedEnd, took_from, feed_of, Taking}
use Rattle.scanner.proofs.Rule.{Refused, feed_cases, rule_feed}
use Rattle.listing.specs.Writing.{Left, left}
use Rattle.lines.specs.Answers.{listed_taken, listed_end}
use Rattle.lines.specs.declared.answers.PartRefused.{PartRefused}
use Rattle.lines.proofs.Ends.{hits_inside}
use Rattle.parts.specs.Exact.{ListEnd, took_answer, hits_of, took_with, part_refused, listed_as, list_of}

-- ── What feed's answer is worth, whatever it was lent ──

-- The reports never outgrow the room.
written_few : (t : List ℕ) (room : ℕ) (part : List ℕ) (run : Run) → run.here.reports.written ≤ room → (part_taken t room part run).here.reports.written ≤ room
unfolding part_taken byte_taken
written_few t room [] run few = few
written_few t room (byte ∷ part) run few = go (ltb (free_after room run) (phrase_count_in t)) refl (written_few t room part (byte_taken t run byte))
  where
    next_few : phrase_count_in t ≤ free_after room run → (byte_taken t run byte).here.reports.written ≤ room
    next_few free = omega (arith, few, happened_few t (quick_in t (state_count_in t) (dense_in t) run.state byte) (run.place + 1) run.here)

    go : (v : Bool) → ltb (free_after room run) (phrase_count_in t) ≡ v
        → ((byte_taken t run byte).here.reports.written ≤ room → (part_taken t room part (byte_taken t run byte)).here.reports.written ≤ room)
        → (cond v run (part_taken t room part (byte_taken t run byte))).here.reports.written ≤ room
    go true full later = few
    go false free later = later (next_few (ltb-false (free_after room run) (phrase_count_in t) free))

-- Where feed took bytes, what the hit lines ask is so.
pub record Told (t part room : List ℕ) (taken reports : ℕ) : Type 0 where
  pub tables : Whole t
  pub phrases : phrase_count_in t ≤ room_for_phrases
  pub offered : taken ≤ length part
  pub held : 2 * reports ≤ length room

pub fed_told : (t m part room : List ℕ) (end : FeedEnd) → end ≡ feed_of t m part room → (came : Took) → end.answer ≡ Ok came
    → Told t part room came.taken came.reports
unfolding said took_from
fed_told t m part room end is came e =
    ⊎_elim
    (λ (r : Refused m room (feed_of t m part room)). absurd (r.number (ap (λ (a : Fed). (said a).number) took)))
    (λ (k : Taking t m part room (feed_of t m part room)).
    let start : Run = at_start (state_held m) (place_held m) m room in
    let rule = rule_feed t m part room (ap (λ (a : Fed). (said a).number) took) in
    let written : (said (feed_of t m part room).answer).reports ≡ (part_taken t (length room / 2) part start).here.reports.written = ap (λ (e : FeedEnd). (said e.answer).reports) k.is in
    record {
      tables = k.tables;
      phrases = k.ready.phrases;
      offered = omega (arith, rule.takes.offered, ap (λ (a : Fed). (said a).taken) took);
      held = omega (arith, written, ap (λ (a : Fed). (said a).reports) took, written_few t (length room / 2) part start (omega arith));
    })
    (feed_cases t m part room)
  where
    took : (feed_of t m part room).answer ≡ Ok came
    took = ap (λ (e : FeedEnd). e.answer) (sym is) ∙ e

-- ── The ways ──

module _ (t m part room out : List ℕ) (end : FeedEnd) (is : end ≡ feed_of t m part room) where
  pub listed_as_lem : (answer : Fed) → end.answer ≡ answer → listed_as answer t end.memory end.room out ≡ list_of t m part room out
  unfolding list_of
  listed_as_lem answer e =
      ap (λ (a : Fed). listed_as a t end.memory end.room out) (sym e)
      ∙ ap (λ (f : FeedEnd). listed_as f.answer t f.memory f.room out) is

  pub listed_refused : (why : FeedError) → end.answer ≡ Err why → (refused : PartRefused) → refused ≡ part_refused why
      → record { answer = Err refused; running = end.memory; room = end.room; out = out } ≡ list_of t m part room out
  unfolding listed_as
  listed_refused why e refused is-so =
      ap {B = ListEnd} (λ (r : PartRefused). record { answer = Err r; running = end.memory; room = end.room; out = out }) is-so
      ∙ listed_as_lem (Err why) e

  pub listed_took : (came : Took) → end.answer ≡ Ok came
      → (after : List ℕ) (r : ℕ) → left after r ≡ hits_of t end.room came.reports out
      → record { answer = took_answer came.taken came.reports came.steps r; running = end.memory; room = end.room; out = after } ≡ list_of t m part room out
  unfolding listed_as took_with
  listed_took came e after r lines =
      ap (λ (l : Left). record { answer = took_answer came.taken came.reports came.steps l.next; running = end.memory; room = end.room; out = l.buffer }) lines
      ∙ listed_as_lem (Ok came) e

-- ── Bytes taken and lines written are inside what was lent ──

abbrev pub Within : List ℕ → List ℕ → ListEnd → Type 0
Within part out end = (listed_taken end.answer ≤ length part) × (listed_end end.answer ≤ length out)

as_within : (t m part room out : List ℕ) (answer : Fed) → (feed_of t m part room).answer ≡ answer
    → Within part out (listed_as answer t (feed_of t m part room).memory (feed_of t m part room).room out)
unfolding listed_as took_with listed_taken listed_end
as_within t m part room out (Ok came) e = (
  (fed_told t m part room (feed_of t m part room) refl came e).offered,
  (hits_inside t (feed_of t m part room).room (length out) 0 _ (left out 0) (record { long = refl; inside = omega arith })).inside,
)
as_within t m part room out (Err why) e = (omega arith, omega arith)

pub list_within : (t m part room out : List ℕ) (end : ListEnd) → end ≡ list_of t m part room out → Within part out end
unfolding list_of
list_within t m part room out end is = subst (Within part out) (sym is) (as_within t m part room out (feed_of t m part room).answer refl)
