-- The hit lines, in rest form: the lines that are left, written behind those before them, make the buffer what all of them make it.
-- Assumes nothing.
use mathlib.Core.Path.{◌≡◌, refl}
use mathlib.Core.List.{List}
use Prim.Native.Nat.{ℕ, zero, suc, ◌+◌, ◌-◌, ◌≤◌, ◌<◌}
use native.Mathlib.Omega.{arith}
use Rattle.listing.specs.Lines.{hit_line}
use Rattle.listing.specs.Writing.{Left, left, with_line}
use Rattle.lines.specs.Rights.{rights_in}
use Rattle.lines.specs.Hits.{number_in, place_in, hit_written, hits_written}

-- A report's line, from what was read of it.
pub hit_turn : (t room out : List ℕ) (i at place number rights : ℕ) → number ≡ number_in room i → place ≡ place_in room i → rights ≡ rights_in t number
    → (after : List ℕ) (r : ℕ) → left after r ≡ with_line out at (hit_line place number rights) → left after r ≡ hit_written t room i (left out at)
unfolding hit_written
hit_turn t room out i at place number rights its where-it-is code after r line = rw (← its, ← where-it-is, ← code) line

module _ (t room : List ℕ) (reports : ℕ) where
  pub hits_next : (i : ℕ) (here next : Left) → i < reports → next ≡ hit_written t room i here
      → hits_written t room (i + 1) (reports - (i + 1)) next ≡ hits_written t room i (reports - i) here
  unfolding hits_written
  hits_next i here next inside is = go (reports - i) refl (reports - (i + 1)) refl
    where
      go : (left : ℕ) → left ≡ reports - i → (later : ℕ) → later ≡ reports - (i + 1) → hits_written t room (i + 1) later next ≡ hits_written t room i left here
      go zero e later f = absurd (omega arith)
      go (suc left) e later f =
          let same : later ≡ left = omega arith in
          rw (same, is)

  pub hits_end : (i : ℕ) (here : Left) → reports ≤ i → here ≡ hits_written t room i (reports - i) here
  unfolding hits_written
  hits_end i here past = go (reports - i) (omega arith)
    where
      go : (left : ℕ) → left ≡ 0 → here ≡ hits_written t room i left here
      go zero e = refl
      go (suc left) e = absurd (omega arith)
