-- The form of an end line, filled with its three numbers, is that line. Assumes nothing.
use mathlib.Core.Path.{ap, ◌∙◌}
use Prim.Native.Nat.{ℕ}
use native.Mathlib.Omega.{arith}
use Rattle.listing.specs.Forms.{filled}
use Rattle.listing.specs.Lines.{end_line}
use Rattle.listing.specs.Writing.{with_line}
use Rattle.listing.proofs.Lengths.{end_line_most}
use Rattle.listing.proofs.end_line.Goals as goal

pub returns : goal.returns
unfolding filled end_line
returns c =
    let a = c.args in
    let taken = c.bytes-taken.ensures in
    c.put_line.ensures ∙ ap (λ (n : ℕ). with_line a.out.now a.at (end_line n a.hits a.steps)) taken

pub put_line-requires : goal.put_line-requires
unfolding filled end_line
put_line-requires c = end_line_most _ _ _ (omega arith) (omega arith) (omega arith)
