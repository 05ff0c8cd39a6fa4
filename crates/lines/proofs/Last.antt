-- The last lines are one line or two, by whether there were hits.
-- Assumes nothing.
use mathlib.Core.Path.{◌≡◌, sym, ap, ◌∙◌}
use mathlib.Core.Bool.{true, false}
use mathlib.Core.List.{List}
use Prim.Native.Nat.{ℕ}
use Rattle.listing.specs.Lines.{end_line, no_statement}
use Rattle.listing.specs.Writing.{Left, left, with_line}
use Rattle.lines.specs.Last.{without_hits, last_of}

module _ (out : List ℕ) (taken hits steps : ℕ) (ended : List ℕ) (end : ℕ) (first : left ended end ≡ with_line out 0 (end_line taken hits steps)) where
  two_lines : without_hits hits ≡ true → last_of out taken hits steps ≡ with_line (with_line out 0 (end_line taken hits steps)).buffer (with_line out 0 (end_line taken hits steps)).next no_statement
  unfolding last_of
  two_lines none = rw none

  pub last_without : without_hits hits ≡ true → (after : List ℕ) (r : ℕ) → left after r ≡ with_line ended end no_statement → left after r ≡ last_of out taken hits steps
  last_without none after r second = second ∙ ap (λ (l : Left). with_line l.buffer l.next no_statement) first ∙ sym (two_lines none)

  pub last_with : without_hits hits ≡ false → left ended end ≡ last_of out taken hits steps
  unfolding last_of
  last_with some = rw some first
