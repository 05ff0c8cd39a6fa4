-- A line that fits is what is passed on, and so are two lines one behind the other.
-- Assumes nothing.
use mathlib.Core.Path.{◌≡◌, refl, sym, ap, ap₂, ◌∙◌}
use mathlib.Core.Bool.{Bool, true, false, cond}
use mathlib.Core.List.{List, [], ◌++◌, append-nil}
use Prim.Native.Nat.{ℕ, ◌+◌, ◌*◌, ◌^◌, ◌≤◌, ◌<◌}
use native.Mathlib.Omega.{arith}
use lib.Dec.{eqb}
use lib.ListN.{length, length-append}
use Rattle.lent.specs.Numbers.{with_bytes}
use Rattle.lent.proofs.Bytes.{length_with_bytes, with_bytes_split}
use Rattle.listing.specs.Lines.{end_line, no_statement, letter_line, longest_line}
use Rattle.listing.specs.Writing.{Left, left, with_line}
use Rattle.listing.specs.Listing.{last_lines}
use Rattle.listing.proofs.Whole.{line_fits, first_bytes}
use Rattle.listing.proofs.Lengths.{end_line_most, no_statement_most, letter_line_most}
use Rattle.lines.specs.Last.{text_of, without_hits, last_of, too_long_of, LastPromise, TooLongPromise}

module _ (out line : List ℕ) (fits : length line ≤ length out) where
  pub line_written : with_line out 0 line ≡ left (with_bytes out 0 line) (length line)
  line_written = line_fits out 0 line (omega arith) ∙ ap (left (with_bytes out 0 line)) (omega arith)

  pub line_text : text_of (with_line out 0 line) ≡ line
  line_text = ap text_of line_written ∙ first_bytes out line fits refl refl

  -- A second line goes behind it.
  pub second_written : (second : List ℕ) → length line + length second ≤ length out
      → with_line (with_line out 0 line).buffer (with_line out 0 line).next second ≡ with_line out 0 (line ++ second)
  second_written second both =
      ap (λ (l : Left). with_line l.buffer l.next second) line_written
      ∙ line_fits (with_bytes out 0 line) (length line) second (rw (length_with_bytes out 0 line) both)
      ∙ ap₂ left (ap (λ (j : ℕ). with_bytes (with_bytes out 0 line) j second) (omega arith) ∙ sym (with_bytes_split out 0 line second)) (omega (arith, length-append line second))
      ∙ sym (line_fits out 0 (line ++ second) (omega (arith, length-append line second)))

-- ── The last lines ──

module _ (out : List ℕ) (taken hits steps : ℕ) (a : taken < 2 ^ 64) (b : hits < 2 ^ 64) (c : steps < 2 ^ 64) (room : 2 * longest_line ≤ length out) where
  abbrev end : List ℕ
  end = end_line taken hits steps

  end_fits : length end ≤ longest_line
  end_fits = end_line_most taken hits steps a b c

  -- The test is the one of the definition.
  test_right : without_hits hits ≡ eqb hits 0
  unfolding without_hits
  test_right = refl

  pub last_text_lem : text_of (last_of out taken hits steps) ≡ last_lines taken hits steps
  unfolding last_of last_lines
  last_text_lem = rw test_right (go (eqb hits 0))
    where
      line : Left
      line = with_line out 0 end

      go : (none : Bool) → text_of (cond none (with_line line.buffer line.next no_statement) line) ≡ end ++ cond none no_statement []
      go true =
          ap text_of (second_written out end (omega (arith, end_fits)) no_statement (omega (arith, end_fits, no_statement_most)))
          ∙ line_text out (end ++ no_statement) (omega (arith, end_fits, no_statement_most, length-append end no_statement))
      go false = rw append-nil (line_text out end (omega (arith, end_fits)))

pub too_long_text_lem : (out : List ℕ) (taken : ℕ) → taken < 2 ^ 64 → longest_line ≤ length out → text_of (too_long_of out taken) ≡ letter_line taken
unfolding too_long_of
too_long_text_lem out taken a room = line_text out (letter_line taken) (omega (arith, letter_line_most taken a))

-- ── All that is promised of them follows from what they do exactly ──

pub last_promised : (out : List ℕ) (taken hits steps : ℕ) → taken < 2 ^ 64 → hits < 2 ^ 64 → steps < 2 ^ 64
    → (ended : Left) → ended ≡ last_of out taken hits steps → LastPromise out taken hits steps ended
last_promised out taken hits steps a b c ended is = record { exact = is; means = λ room. ap text_of is ∙ last_text_lem out taken hits steps a b c room }

pub too_long_promised : (out : List ℕ) (taken : ℕ) → taken < 2 ^ 64 → (ended : Left) → ended ≡ too_long_of out taken → TooLongPromise out taken ended
too_long_promised out taken a ended is = record { exact = is; means = λ room. ap text_of is ∙ too_long_text_lem out taken a room }
