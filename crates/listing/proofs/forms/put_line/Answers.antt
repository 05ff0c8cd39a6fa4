-- The first bytes of the array that was filled are the line. Assumes nothing.
use mathlib.Core.Path.{sym, ap, ◌∙◌}
use mathlib.Core.List.{List}
use Prim.Native.Nat.{ℕ}
use native.Mathlib.Omega.{arith}
use lib.ListN.{replicate}
use lib.Seq.{length-take-le}
use Rattle.listing.specs.Forms.{filled}
use Rattle.listing.specs.Lines.{longest_line}
use Rattle.listing.specs.Writing.{with_line}
use Rattle.listing.proofs.Whole.{first_bytes}
use Rattle.listing.proofs.forms.put_line.Goals as goal

pub slice_bounds-put_text-end : goal.slice_bounds-put_text-end
slice_bounds-put_text-end c = sym (length-take-le _ _ (omega arith))

pub returns : goal.returns
returns c =
    let a = c.args in
    let made = c.fill-end.ensures in
    let line : List ℕ = filled a.form.now a.numbers.now 0 in
    c.put_text.ensures
    ∙ ap (with_line a.out.now a.at) (first_bytes (replicate longest_line 0) line (omega arith) made.value made.line_after)
