-- What stands has passed the tests of a phrase record, in their order: its number is above the one before. Assumes nothing.
use mathlib.Core.Path.{◌≡◌, sym, ◌∙◌}
use mathlib.Core.Bool.{false}
use Prim.Native.Nat.{ℕ, ◌<◌}
use native.Mathlib.Omega.{arith}
use borrow.Author.Tests.{lt-leb}
use Rattle.std.specs.Ordering.{is_le, nat_cmp}
use Rattle.std.proofs.lemmas.Grind.{common_steps}
use Rattle.book.specs.Judging.{phrase_turn}
use Rattle.book.proofs.phrases.phrase.Goals as goal

-- A number that is not at most the one before is above it.
larger : (number last : ℕ) → is_le (nat_cmp number last) ≡ false → last < number
larger number last above = grind (arith, common_steps)

pub returns : goal.returns
unfolding phrase_turn
returns c =
    let a = c.args in
    let above : a.tally.last.0 < a.number.0 = grind (arith, larger) in
    rw (sym c.in_range.ensures ∙ c.if-not-in_range.false, lt-leb a.number.0 a.tally.last.0 above, lt-leb _ _ c.if-tally-ge-MOST_PHRASES.false)
