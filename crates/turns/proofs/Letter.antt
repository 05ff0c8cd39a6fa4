-- What is written of a letter: of one that does not pass the largest place all is taken, and of a longer one the whole parts before it.
-- Assumes nothing.
use mathlib.Core.Path.{◌≡◌, refl, sym, ap, ap₂, ◌∙◌}
use mathlib.Core.Logic.{⊎_elim}
use mathlib.Core.List.{List, [], ◌++◌, append-nil}
use Prim.Native.Nat.{ℕ, zero, suc, ◌+◌, ◌-◌, ◌*◌, ◌/◌, ◌%◌, ◌≤◌, ◌<◌}
use native.Mathlib.Omega.{arith}
use lib.ListN.{length, take, drop, length-append, take-append-drop, length-take, length-drop}
use lib.Seq.{drop-append_seam, take-append-le, length-take-le, take-add, drop-drop}
use borrow.Author.Tests.{le-leb, lt-leb}
use Rattle.meaning.specs.Calls.{largest_place}
use Rattle.lent.proofs.Cases.{lt_or_le}
use Rattle.meaning.specs.Books.{Book}
use Rattle.meaning.specs.Reports.{reports}
use Rattle.meaning.specs.Automaton.{steps}
use Rattle.meaning.proofs.Cuts.{reports_cut}
use Rattle.meaning.proofs.Depth.{steps_at_most}
use Rattle.format.specs.Limits.{most_phrases}
use Rattle.scanner.specs.Meant.{TablesOf, RunningOf}
use Rattle.listing.specs.Lines.{letter_line, longest_line}
use Rattle.listing.specs.Listing.{part_length, whole_parts, hit_lines, last_lines, whole_letter, cut_letter, letter_lines}
use Rattle.lines.proofs.Texts.{last_text_lem, too_long_text_lem}
use Rattle.turns.specs.Turns.{Lent, Totals, no_totals, part_begin, part_used, remaining, last_text, too_long_text, turns_from}
use Rattle.turns.proofs.Few.{reports_few}
use Rattle.turns.proofs.Turn.{Stands, turn_too_long}
use Rattle.turns.proofs.Turns.{Offers, turns_right}

-- What remains of a part, where the bytes x end in it: the bytes after x up to its end.
part_left : (begin used size count : ℕ) (letter x rest : List ℕ) → x ++ rest ≡ letter → begin + used ≡ length x → used + count ≡ size
    → drop used (take size (drop begin letter)) ≡ take count rest
part_left begin used size count letter x rest whole ends fills =
    ap (drop used) parted
    ∙ ap (λ (k : ℕ). drop k (take used from ++ take count (drop used from))) (sym front)
    ∙ drop-append_seam (take used from) (take count (drop used from))
    ∙ ap (take count) behind
  where
    from : List ℕ
    from = drop begin letter

    front : length (take used from) ≡ used
    front = length-take-le used from (omega (arith, length-drop begin letter, ap length whole, length-append x rest))

    parted : take size from ≡ take used from ++ take count (drop used from)
    parted = ap (λ (k : ℕ). take k from) (sym fills) ∙ take-add used count from

    behind : drop used from ≡ rest
    behind = drop-drop used begin letter ∙ ap (λ (k : ℕ). drop k letter) ends ∙ ap (drop (length x)) (sym whole) ∙ drop-append_seam x rest

-- What is offered after the bytes x, of a letter that is x and a rest: the rest up to the next multiple of a part's length.
rest_offered : (letter x rest : List ℕ) → x ++ rest ≡ letter → remaining letter (length x) ≡ take (part_length - length x % part_length) rest
unfolding remaining
rest_offered letter x rest whole =
    part_left (part_begin (length x)) (part_used (length x)) part_length (part_length - length x % part_length) letter x rest whole (omega arith) (omega arith)

-- Before the first byte.
at_start_lem : (book : Book) (m : List ℕ) → RunningOf book [] m → Stands book [] m no_totals
unfolding reports steps
at_start_lem book m running = record { running = running; taken = refl; hits = refl; steps = refl }

module _ (book : Book) (tables letter : List ℕ) (lent : ℕ → Lent) (last : List ℕ) (held : TablesOf book tables)
    (room : (turn : ℕ) → most_phrases ≤ length (lent turn).room / 2) (out : (turn : ℕ) → longest_line * (length (lent turn).room / 2) ≤ length (lent turn).out)
    (wide : 2 * longest_line ≤ length last) where
  -- ── All of the letter is taken ──

  module _ (short : length letter ≤ largest_place) where
    abbrev final : List ℕ
    final = last_lines (length letter) (length (reports book letter)) (steps book letter)

    final_text : (totals : Totals) → totals.taken ≡ length letter → totals.hits ≡ length (reports book letter) → totals.steps ≡ steps book letter
        → last_text tables letter lent last totals ≡ final
    final_text totals a b c =
        rw (a, b, c)
        (last_text_lem last (length letter) (length (reports book letter)) (steps book letter) (omega arith)
        (omega (arith, reports_few book held.limits letter)) (omega (arith, steps_at_most book letter)) wide)

    whole_ends : (more turn : ℕ) (x m : List ℕ) (totals : Totals) → x ++ [] ≡ letter → 0 ≤ more → Stands book x m totals
        → turns_from tables letter lent last more turn m totals ≡ final
    unfolding turns_from
    whole_ends more turn x m totals whole few stands = go more
      where
        all : x ≡ letter
        all = sym (append-nil x) ∙ whole

        taken : totals.taken ≡ length letter
        taken = stands.taken ∙ ap length all

        text : last_text tables letter lent last totals ≡ final
        text = final_text totals taken (stands.hits ∙ ap (λ (l : List ℕ). length (reports book l)) all) (stands.steps ∙ ap (steps book) all)

        go : (more : ℕ) → turns_from tables letter lent last more turn m totals ≡ final
        go zero = text
        go (suc more) = rw (le-leb (length letter) totals.taken (omega (arith, taken))) text

    whole_offers : (x w : List ℕ) → x ++ (w ++ []) ≡ letter → 0 < length w → Offers letter x w
    whole_offers x w whole some = record {
      count = part_length - length x % part_length;
      some = omega arith;
      first = rest_offered letter x w (ap (λ (l : List ℕ). x ++ l) (sym (append-nil w)) ∙ whole);
      early = omega (arith, length-take (part_length - length x % part_length) w, ap length whole, length-append x (w ++ []), length-append w []);
    }

    whole_written : (m : List ℕ) → RunningOf book [] m → turns_from tables letter lent last (length letter) 0 m no_totals ≡ whole_letter book letter
    unfolding whole_letter reports
    whole_written m running =
        turns_right book tables letter lent last held room out [] 0 final whole_ends whole_offers (length letter) 0 [] letter m no_totals (append-nil letter) (omega arith) (at_start_lem book m running)
        ∙ ap (λ l. hit_lines book l ++ final) (sym (reports_cut book [] letter))

  -- ── A part is refused with 11 ──

  module _ (long : largest_place < length letter) where
    abbrev read : List ℕ
    read = take whole_parts letter

    abbrev unread : List ℕ
    unread = drop whole_parts letter

    read_long : length read ≡ whole_parts
    read_long = length-take-le whole_parts letter (omega arith)

    letter_text : (totals : Totals) → totals.taken ≡ whole_parts → too_long_text tables letter lent last totals ≡ letter_line whole_parts
    letter_text totals taken = rw taken (too_long_text_lem last whole_parts (omega arith) (omega arith))

    -- All whole parts are taken, and the next one is refused.
    cut_ends : (more turn : ℕ) (x m : List ℕ) (totals : Totals) → x ++ unread ≡ letter → 1 ≤ more → Stands book x m totals
        → turns_from tables letter lent last more turn m totals ≡ letter_line whole_parts
    cut_ends zero turn x m totals whole few stands = absurd (omega arith)
    cut_ends (suc more) turn x m totals whole few stands =
        let count : length x ≡ whole_parts = omega (arith, ap length whole, length-append x unread, length-drop whole_parts letter) in
        let part : List ℕ = remaining letter (length x) in
        let size : length part ≡ length (take (part_length - length x % part_length) unread) = ap length (rest_offered letter x unread whole) in
        let given = length-take (part_length - length x % part_length) unread in
        let over : largest_place < length x + length part = omega (arith, size, count, given, length-drop whole_parts letter) in
        turn_too_long book tables letter lent last held room out more turn x m totals stands (omega arith) part refl over
        ∙ letter_text totals (stands.taken ∙ count)

    cut_offers : (x w : List ℕ) → x ++ (w ++ unread) ≡ letter → 0 < length w → Offers letter x w
    cut_offers x w whole some =
        let count : ℕ = part_length - length x % part_length in
        let both : length x + length w ≡ whole_parts = omega (arith, ap length whole, length-append x (w ++ unread), length-append w unread, length-drop whole_parts letter) in
        record {
          count = count;
          some = omega arith;
          first = rest_offered letter x (w ++ unread) whole ∙ take-append-le count w unread (omega (arith, both));
          early = omega (arith, length-take count w, both);
        }

    cut_written : (m : List ℕ) → RunningOf book [] m → turns_from tables letter lent last (length letter) 0 m no_totals ≡ cut_letter book read
    unfolding cut_letter reports
    cut_written m running =
        turns_right book tables letter lent last held room out unread 1 (letter_line whole_parts) cut_ends cut_offers (length letter) 0 [] read m no_totals
        (take-append-drop whole_parts letter) (omega (arith, read_long)) (at_start_lem book m running)
        ∙ ap₂ (λ l k. hit_lines book l ++ letter_line k) (sym (reports_cut book [] read)) (sym read_long)

  -- ── Either way ──

  pub letter_written : (m : List ℕ) → RunningOf book [] m → turns_from tables letter lent last (length letter) 0 m no_totals ≡ letter_lines book letter
  unfolding letter_lines
  letter_written m running =
      ⊎_elim
      (λ (long : largest_place < length letter). rw (lt-leb (length letter) largest_place long) (cut_written long m running))
      (λ (short : length letter ≤ largest_place). rw (le-leb (length letter) largest_place short) (whole_written short m running))
      (lt_or_le largest_place (length letter))
