-- The form of a letter's line, filled with the bytes taken, is that line. Assumes nothing.
use mathlib.Core.Path.{ap, ◌∙◌}
use Prim.Native.Nat.{ℕ}
use native.Mathlib.Omega.{arith}
use Rattle.listing.specs.Forms.{filled}
use Rattle.listing.specs.Lines.{letter_line}
use Rattle.listing.specs.Writing.{with_line}
use Rattle.listing.proofs.Lengths.{letter_line_most}
use Rattle.listing.proofs.letter_line.Goals as goal

pub returns : goal.returns
unfolding filled letter_line
returns c =
    let a = c.args in
    let taken = c.bytes-taken.ensures in
    c.put_line.ensures ∙ ap (λ (n : ℕ). with_line a.out.now a.at (letter_line n)) taken

pub put_line-requires : goal.put_line-requires
unfolding filled letter_line
put_line-requires c = letter_line_most _ (omega arith)
