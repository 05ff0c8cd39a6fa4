-- One turn, after the bytes x of a letter: its lines are those of the bytes that it takes, and the totals and the memory are right for the next.
-- Assumes nothing.
use mathlib.Core.Path.{◌≡◌, refl, ap, ◌∙◌}
use mathlib.Core.List.{List, ◌++◌}
use Prim.Native.Nat.{ℕ, suc, ◌+◌, ◌*◌, ◌/◌, ◌≤◌, ◌<◌}
use native.Mathlib.Omega.{arith}
use lib.ListN.{length, take, drop, length-append, take-append-drop}
use lib.Seq.{length-take-le}
use borrow.Author.Tests.{lt-leb}
use Rattle.std.specs.Prelude.{Result}
use Rattle.meaning.specs.Books.{Book}
use Rattle.meaning.specs.Reports.{reports}
use Rattle.meaning.specs.Automaton.{steps}
use Rattle.meaning.specs.Calls.{largest_place, reports_after, steps_after}
use Rattle.meaning.proofs.Cuts.{reports_cut, steps_cut}
use Rattle.meaning.proofs.Depth.{steps_at_most}
use Rattle.format.specs.Limits.{most_phrases}
use Rattle.scanner.specs.Meant.{TablesOf, RunningOf}
use Rattle.listing.specs.Lines.{longest_line}
use Rattle.listing.specs.Listing.{hit_lines}
use Rattle.lines.specs.Answers.{listed_taken, listed_hits, listed_steps}
use Rattle.lines.specs.declared.answers.Listed.{Listed}
use Rattle.lines.specs.declared.answers.PartRefused.{PartRefused}
use Rattle.parts.specs.Exact.{ListEnd, took_answer, list_of}
use Rattle.parts.specs.Meant.{listed_text, ListTook}
use Rattle.parts.proofs.Meant.{list_means}
use Rattle.turns.specs.Turns.{Lent, Totals, added, totals_with, remaining, onward, too_long_text, turns_from}
use Rattle.turns.proofs.Few.{reports_few}

-- After the bytes x the memory is the book's, and the totals are those of x.
pub record Stands (book : Book) (x m : List ℕ) (totals : Totals) : Type 0 where
  pub running : RunningOf book x m
  pub taken : totals.taken ≡ length x
  pub hits : totals.hits ≡ length (reports book x)
  pub steps : totals.steps ≡ steps book x

-- A turn takes some bytes of the part, its first ones: it writes their lines, and the rest of the listing follows.
pub record Turned (book : Book) (x part text : List ℕ) (later : List ℕ → Totals → List ℕ) : Type 0 where
  pub these : List ℕ
  pub behind : List ℕ
  pub split : these ++ behind ≡ part
  pub some : 0 < length these
  pub memory : List ℕ
  pub totals : Totals
  pub stands : Stands book (x ++ these) memory totals
  pub written : text ≡ hit_lines book (reports_after book x these) ++ later memory totals

-- Where bytes were taken, the lines of the turn are written, and then what follows.
took_onward : (taken hits steps end : ℕ) (lines later too_long : List ℕ) → onward (took_answer taken hits steps end) lines later too_long ≡ lines ++ later
unfolding onward
took_onward taken hits steps end lines later too_long = refl

module _ (book : Book) (tables letter : List ℕ) (lent : ℕ → Lent) (last : List ℕ) (held : TablesOf book tables)
    (room : (turn : ℕ) → most_phrases ≤ length (lent turn).room / 2) (out : (turn : ℕ) → longest_line * (length (lent turn).room / 2) ≤ length (lent turn).out) where
  roomy : (turn : ℕ) → length book.phrases ≤ length (lent turn).room / 2
  roomy turn = omega (arith, room turn, held.limits.counts.count)

  module _ (more turn : ℕ) (x m : List ℕ) (totals : Totals) (stands : Stands book x m totals) (unread : length x < length letter)
      (part : List ℕ) (offers : remaining letter (length x) ≡ part) where
    abbrev end : ListEnd
    end = list_of tables m part (lent turn).room (lent turn).out

    abbrev later : ListEnd → List ℕ
    later e = turns_from tables letter lent last more (turn + 1) e.running (totals_with totals e.answer)

    -- The letter goes on as the call's answer says.
    turn_goes : turns_from tables letter lent last (suc more) turn m totals ≡ onward end.answer (listed_text end) (later end) (too_long_text tables letter lent last totals)
    unfolding turns_from
    turn_goes = rw (stands.taken, lt-leb (length letter) (length x) unread, offers)

    -- ── Bytes are taken ──

    module _ (early : length x + length part ≤ largest_place) (some : 0 < length part) (taken : ℕ) (took : ListTook book x part (lent turn).room (lent turn).out taken end) where
      abbrev y : List ℕ
      y = take taken part

      y_long : length y ≡ taken
      y_long = length-take-le taken part took.offered

      next_stands : Stands book (x ++ y) end.running (totals_with totals end.answer)
      unfolding totals_with added listed_taken listed_hits listed_steps
      next_stands =
          let both = length-append x y in
          let cut = ap length (reports_cut book x y) ∙ length-append (reports book x) (reports_after book x y) in
          record {
            running = took.memory;
            taken = omega (arith, stands.taken, ap listed_taken took.says, y_long, both, took.offered);
            hits = omega (arith, stands.hits, ap listed_hits took.says, cut, reports_few book held.limits (x ++ y), y_long, both, took.offered);
            steps = omega (arith, stands.steps, ap listed_steps took.says, steps_cut book x y, steps_at_most book (x ++ y), y_long, both, took.offered);
          }

      turn_text : turns_from tables letter lent last (suc more) turn m totals ≡ hit_lines book (reports_after book x y) ++ later end
      turn_text =
          turn_goes
          ∙ ap (λ (a : Result Listed PartRefused). onward a (listed_text end) (later end) (too_long_text tables letter lent last totals)) took.says
          ∙ took_onward taken (length (reports_after book x y)) (steps_after book x y) _ (listed_text end) (later end) (too_long_text tables letter lent last totals)
          ∙ ap (λ (l : List ℕ). l ++ later end) (took.text (out turn))

    pub turn_takes : length x + length part ≤ largest_place → 0 < length part
        → Turned book x part (turns_from tables letter lent last (suc more) turn m totals) (turns_from tables letter lent last more (turn + 1))
    turn_takes early some =
        let found = (list_means book x tables m part (lent turn).room (lent turn).out held stands.running).took (roomy turn) early in
        record {
          these = take found.0 part;
          behind = drop found.0 part;
          split = take-append-drop found.0 part;
          some = omega (arith, y_long early some found.0 found.1, found.1.goes_on some);
          memory = end.running;
          totals = totals_with totals end.answer;
          stands = next_stands early some found.0 found.1;
          written = turn_text early some found.0 found.1;
        }

    -- ── The part is refused with 11 ──

    pub turn_too_long : largest_place < length x + length part → turns_from tables letter lent last (suc more) turn m totals ≡ too_long_text tables letter lent last totals
    unfolding onward
    turn_too_long over =
        let refused = ((list_means book x tables m part (lent turn).room (lent turn).out held stands.running).too_long (roomy turn) over).0 in
        turn_goes ∙ ap (λ (a : Result Listed PartRefused). onward a (listed_text end) (later end) (too_long_text tables letter lent last totals)) refused
