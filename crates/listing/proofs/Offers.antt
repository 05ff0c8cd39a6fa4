-- A letter that does not pass the largest place is taken part by part to its end. Of a longer one every part before the last that begins at or
-- below that place is whole, so that the part which is refused begins at the greatest multiple of a part's length.
-- Assumes nothing.
use mathlib.Core.Path.{◌≡◌, ap, ◌∙◌}
use mathlib.Core.Logic.{⊎_elim}
use mathlib.Core.Bool.{true, false, cond}
use mathlib.Core.List.{List}
use Prim.Native.Nat.{ℕ, zero, suc, ◌+◌, ◌%◌, ◌≤◌, ◌<◌}
use native.Mathlib.Omega.{arith}
use lib.ListN.{length, take, drop, length-take, length-drop}
use lib.Seq.{take-length}
use borrow.Author.Tests.{lt-ltb, le-ltb, le-leb, lt-leb}
use Rattle.meaning.specs.Calls.{largest_place}
use Rattle.lent.proofs.Cases.{lt_or_le}
use Rattle.meaning.specs.Books.{Book}
use Rattle.listing.specs.Listing.{part_length, outcome, offered_from, offered, whole_parts, whole_letter, cut_letter, letter_lines}

module _ (parts taken : ℕ) (rest : List ℕ) where
  abbrev after : ℕ
  after = taken + length (take part_length rest)

  part_refused : largest_place < after → offered_from (suc parts) taken rest ≡ outcome taken true
  unfolding offered_from
  part_refused h = rw (lt-ltb largest_place after h)

  part_taken_lem : after ≤ largest_place → offered_from (suc parts) taken rest ≡ offered_from parts after (drop part_length rest)
  unfolding offered_from
  part_taken_lem h = rw (le-ltb largest_place after h)

all_taken_lem : (parts taken : ℕ) (rest : List ℕ) → length rest ≤ parts → taken + length rest ≤ largest_place
    → offered_from parts taken rest ≡ outcome (taken + length rest) false
unfolding offered_from
all_taken_lem zero taken rest few short = ap (λ (k : ℕ). outcome k false) (omega arith)
all_taken_lem (suc parts) taken rest few short =
    let first = length-take part_length rest in
    let others = length-drop part_length rest in
    part_taken_lem parts taken rest (omega (arith, first))
    ∙ all_taken_lem parts (after parts taken rest) (drop part_length rest) (omega (arith, others)) (omega (arith, first, others))
    ∙ ap (λ (k : ℕ). outcome k false) (omega (arith, first, others))

some_refused : (parts taken : ℕ) (rest : List ℕ) → length rest ≤ parts → taken % part_length ≡ 0 → taken ≤ whole_parts → largest_place < taken + length rest
    → offered_from parts taken rest ≡ outcome whole_parts true
some_refused zero taken rest few whole low long = absurd (omega arith)
some_refused (suc parts) taken rest few whole low long =
    let first = length-take part_length rest in
    let others = length-drop part_length rest in
    ⊎_elim
    (λ (over : largest_place < after parts taken rest). part_refused parts taken rest over ∙ ap (λ (k : ℕ). outcome k true) (omega (arith, first)))
    (λ (on : after parts taken rest ≤ largest_place). part_taken_lem parts taken rest on
    ∙ some_refused parts (after parts taken rest) (drop part_length rest) (omega (arith, others)) (omega (arith, first)) (omega (arith, first)) (omega (arith, first, others)))
    (lt_or_le largest_place (after parts taken rest))

-- How a letter goes, part by part.
pub offered_whole : (letter : List ℕ) → length letter ≤ largest_place → offered letter ≡ outcome (length letter) false
unfolding offered
offered_whole letter short = all_taken_lem (length letter) 0 letter (omega arith) (omega arith) ∙ ap (λ (k : ℕ). outcome k false) (omega arith)

pub offered_cut : (letter : List ℕ) → largest_place < length letter → offered letter ≡ outcome whole_parts true
unfolding offered
offered_cut letter long = some_refused (length letter) 0 letter (omega arith) (omega arith) (omega arith) (omega arith)

-- The letter's lines are those of the bytes taken part by part, with the end line where no part was refused and the line of 11 where one was.
pub letter_by_parts : (book : Book) (letter : List ℕ)
    → letter_lines book letter
    ≡ cond (offered letter).too_long (cut_letter book (take (offered letter).taken letter)) (whole_letter book (take (offered letter).taken letter))
unfolding letter_lines
letter_by_parts book letter =
    ⊎_elim
    (λ (long : largest_place < length letter). rw (offered_cut letter long, lt-leb (length letter) largest_place long))
    (λ (short : length letter ≤ largest_place). rw (offered_whole letter short, le-leb (length letter) largest_place short, take-length))
    (lt_or_le largest_place (length letter))
