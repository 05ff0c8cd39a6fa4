-- The hit lines of the reports in the room are those of the definition: report after report the room has its number and its place, the tables its
-- rights code, and the buffer room for the line.
-- Assumes nothing.
use mathlib.Core.Path.{◌≡◌, sym, ap, ap₂, ◌∙◌}
use mathlib.Core.Bool.{Bool, true, false, cond}
use mathlib.Core.List.{List, [], ◌∷◌, ◌++◌, map}
use Prim.Native.Nat.{ℕ, suc, ◌+◌, ◌*◌, ◌≤◌, ◌<◌}
use native.Mathlib.Omega.{arith}
use lib.ListN.{length, get_or, length-append}
use Rattle.lent.specs.Numbers.{with_bytes}
use Rattle.lent.proofs.Bytes.{with_bytes_split, length_with_bytes}
use Rattle.meaning.specs.Books.{Phrase, Book}
use Rattle.meaning.specs.Reports.{Report, report_of, choose, reports_at}
use Rattle.meaning.specs.Matching.{matches}
use Rattle.meaning.specs.Calls.{largest_place, reports_after}
use Rattle.format.specs.Limits.{All, PhraseWithin, Within}
use Rattle.format.proofs.Lists.{all_append}
use Rattle.tracking.specs.Reports.{in_room}
use Rattle.scanner.specs.Meant.{TablesOf}
use Rattle.listing.specs.Lines.{hit_line, longest_line}
use Rattle.listing.specs.Writing.{left}
use Rattle.listing.specs.Listing.{rights_of, hit_lines}
use Rattle.listing.proofs.Whole.{line_fits}
use Rattle.listing.proofs.Lengths.{hit_line_most}
use Rattle.lines.specs.Hits.{number_in, hit_written, hits_written}
use Rattle.lines.proofs.Codes.{codes_right, code_fits}

-- ── The reports of a book fit a line ──

-- A phrase number has 16 bits, and a place does not pass the largest.
pub record Shows (report : Report) : Type 0 where
  pub number : report.number < 65536
  pub place : report.place ≤ largest_place

shows_chosen : (test : Phrase → Bool) (place : ℕ) → place ≤ largest_place → (phrases : List Phrase) → All PhraseWithin phrases
    → All Shows (map (λ phrase. report_of phrase place) (choose test phrases))
unfolding choose All
shows_chosen test place early [] all = tt
shows_chosen test place early (phrase ∷ rest) all = go (test phrase) (shows_chosen test place early rest all.1)
  where
    go : (v : Bool) → All Shows (map (λ p. report_of p place) (choose test rest))
        → All Shows (map (λ p. report_of p place) (cond v (phrase ∷ choose test rest) (choose test rest)))
    go true later = (record { number = omega (arith, all.0.so_far.number.1); place = early }, later)
    go false later = later

pub reports_show : (book : Book) → Within book → (x y : List ℕ) → length x + length y ≤ largest_place → All Shows (reports_after book x y)
unfolding reports_after reports_at All
reports_show book within x [] short = tt
reports_show book within x (a ∷ y) short =
    all_append Shows (reports_at book (x ++ a ∷ []) (suc (length x))) (reports_after book (x ++ a ∷ []) y)
    (shows_chosen (λ phrase. matches book phrase (x ++ a ∷ []) (suc (length x))) (suc (length x)) (omega arith) book.phrases within.each)
    (reports_show book within (x ++ a ∷ []) y (rw (length-append x (a ∷ [])) (omega arith)))

-- ── Line after line ──

module _ (book : Book) (t : List ℕ) (tables : TablesOf book t) where
  abbrev line_of : Report → List ℕ
  line_of report = hit_line report.place report.number (rights_of book.phrases report.number)

  line_most : (report : Report) → Shows report → length (line_of report) ≤ longest_line
  line_most report shows = hit_line_most report.place report.number (rights_of book.phrases report.number)
      (omega (arith, shows.place)) (omega (arith, shows.number)) (omega (arith, code_fits book tables.limits t tables.laid tables.bytes report.number))

  one_shown : (report : Report) → Shows report → (room out : List ℕ) (i at : ℕ) → get_or room (2 * i) 0 ≡ report.number → get_or room (2 * i + 1) 0 ≡ report.place
      → at + longest_line ≤ length out → hit_written t room i (left out at) ≡ left (with_bytes out at (line_of report)) (at + length (line_of report))
  unfolding hit_written
  one_shown report shows room out i at its where-it-is fits =
      let number : number_in room i ≡ report.number = omega (arith, its, shows.number) in
      rw (number, where-it-is, codes_right book tables.limits t tables.laid report.number)
      (line_fits out at (line_of report) (omega (arith, line_most report shows)))

  pub hits_shown : (hits : List Report) → All Shows hits → (room out : List ℕ) (i at : ℕ)
      → ((k : ℕ) → k < 2 * length hits → get_or room (2 * i + k) 0 ≡ get_or (in_room hits) k 0)
      → at + longest_line * length hits ≤ length out
      → hits_written t room i (length hits) (left out at) ≡ left (with_bytes out at (hit_lines book hits)) (at + length (hit_lines book hits))
  unfolding hits_written hit_lines in_room with_bytes All
  hits_shown [] all room out i at reads fits = ap (left out) (omega arith)
  hits_shown (report ∷ rest) all room out i at reads fits =
      let line : List ℕ = line_of report in
      let its : get_or room (2 * i) 0 ≡ report.number = ap (λ (j : ℕ). get_or room j 0) (omega arith) ∙ reads 0 (omega arith) in
      let first : hit_written t room i (left out at) ≡ left (with_bytes out at line) (at + length line)
      = one_shown report all.0 room out i at its (reads 1 (omega arith)) (omega arith) in
      let later : hits_written t room (i + 1) (length rest) (left (with_bytes out at line) (at + length line))
      ≡ left (with_bytes (with_bytes out at line) (at + length line) (hit_lines book rest)) (at + length line + length (hit_lines book rest))
      = hits_shown rest all.1 room (with_bytes out at line) (i + 1) (at + length line)
      (λ k l. ap (λ (j : ℕ). get_or room j 0) (omega arith) ∙ reads (suc (suc k)) (omega arith))
      (rw (length_with_bytes out at line) (omega (arith, line_most report all.0))) in
      ap (hits_written t room (i + 1) (length rest)) first
      ∙ later
      ∙ ap₂ left (sym (with_bytes_split out at line (hit_lines book rest))) (omega (arith, length-append line (hit_lines book rest)))
