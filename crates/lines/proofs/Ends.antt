-- A line ends inside the buffer, whether it was written or not, and so do any lines one behind the other.
-- Assumes nothing.
use mathlib.Core.Path.{◌≡◌, refl, sym, ap, subst}
use mathlib.Core.Logic.{⊎_elim}
use mathlib.Core.Bool.{Bool, true, false, cond}
use mathlib.Core.List.{List}
use Prim.Native.Nat.{ℕ, zero, suc, ◌+◌, ◌≤◌, ◌<◌}
use native.Mathlib.Omega.{arith}
use lib.ListN.{length}
use Rattle.lent.proofs.Bytes.{length_with_bytes}
use Rattle.lent.proofs.Cases.{lt_or_le}
use Rattle.listing.specs.Lines.{hit_line, end_line, no_statement, letter_line}
use Rattle.listing.specs.Writing.{Left, left, with_line}
use Rattle.listing.proofs.Whole.{line_fits, line_short}
use Rattle.lines.specs.Rights.{rights_in}
use Rattle.lines.specs.Hits.{number_in, place_in, hit_written, hits_written}
use Rattle.lines.specs.Last.{without_hits, last_of, too_long_of}

-- A buffer of so many bytes, with an end inside it.
pub record Inside (n : ℕ) (here : Left) : Type 0 where
  pub long : length here.buffer ≡ n
  pub inside : here.next ≤ n

pub line_inside : (out : List ℕ) (at : ℕ) (line : List ℕ) → at ≤ length out → Inside (length out) (with_line out at line)
line_inside out at line before =
    ⊎_elim
    (λ (short : length out < at + length line). rw (line_short out at line short) (record { long = refl; inside = before }))
    (λ (room : at + length line ≤ length out). rw (line_fits out at line room) (record { long = length_with_bytes out at line; inside = room }))
    (lt_or_le (length out) (at + length line))

line_behind : (n : ℕ) (here : Left) (line : List ℕ) → Inside n here → Inside n (with_line here.buffer here.next line)
line_behind n here line before =
    let next : Inside (length here.buffer) (with_line here.buffer here.next line) = line_inside here.buffer here.next line (omega (arith, before.long, before.inside)) in
    subst (λ (k : ℕ). Inside k (with_line here.buffer here.next line)) before.long next

pub hits_inside : (t room : List ℕ) (n i count : ℕ) (here : Left) → Inside n here → Inside n (hits_written t room i count here)
unfolding hits_written hit_written
hits_inside t room n i zero here before = before
hits_inside t room n i (suc count) here before =
    hits_inside t room n (i + 1) count (hit_written t room i here)
    (line_behind n here (hit_line (place_in room i) (number_in room i) (rights_in t (number_in room i))) before)

pub last_inside : (out : List ℕ) (taken hits steps : ℕ) → Inside (length out) (last_of out taken hits steps)
unfolding last_of
last_inside out taken hits steps = go (without_hits hits)
  where
    line : Left
    line = with_line out 0 (end_line taken hits steps)

    ended : Inside (length out) line
    ended = line_inside out 0 (end_line taken hits steps) (omega arith)

    go : (none : Bool) → Inside (length out) (cond none (with_line line.buffer line.next no_statement) line)
    go true = line_behind (length out) line no_statement ended
    go false = ended

pub too_long_inside : (out : List ℕ) (taken : ℕ) → Inside (length out) (too_long_of out taken)
unfolding too_long_of
too_long_inside out taken = line_inside out 0 (letter_line taken) (omega arith)

-- What was answered is where the lines end.
pub ends_inside : (n : ℕ) (out : List ℕ) (end : ℕ) (here : Left) → left out end ≡ here → Inside n here → end ≤ n
ends_inside n out end here is inside = subst (λ (k : ℕ). k ≤ n) (sym (ap (λ (l : Left). l.next) is)) inside.inside
