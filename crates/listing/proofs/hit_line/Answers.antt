-- The form of a hit line, filled with the place, the number and the rights code, is that line. Assumes nothing.
use mathlib.Core.Path.{ap₂, ◌∙◌}
use Prim.Native.Nat.{ℕ}
use native.Mathlib.Omega.{arith}
use Rattle.listing.specs.Forms.{filled}
use Rattle.listing.specs.Lines.{hit_line}
use Rattle.listing.specs.Writing.{with_line}
use Rattle.listing.proofs.Lengths.{hit_line_most}
use Rattle.listing.proofs.hit_line.Goals as goal

pub returns : goal.returns
unfolding filled hit_line
returns c =
    let a = c.args in
    let place = c.bytes-place.ensures in
    let number = c.from-number.ensures ∙ c.value.ensures in
    c.put_line.ensures ∙ ap₂ (λ (p n : ℕ). with_line a.out.now a.at (hit_line p n a.rights)) place number

pub put_line-requires : goal.put_line-requires
unfolding filled hit_line
put_line-requires c = hit_line_most _ _ _ (omega arith) (omega arith) (omega arith)
