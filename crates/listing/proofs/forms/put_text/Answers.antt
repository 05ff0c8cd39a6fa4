-- A text that fits stands in the buffer from `at` on, and all else is as it was. Where it does not fit, nothing was stored. Assumes nothing.
use mathlib.Core.Path.{sym, ap, ap₂, ◌∙◌}
use mathlib.Core.List.{List, ◌++◌}
use Prim.Native.Nat.{ℕ, ◌+◌}
use native.Mathlib.Omega.{arith}
use lib.ListN.{length, take}
use borrow.Rule.Slice.PartMut.{Post-is}
use Rattle.listing.specs.Writing.{left}
use Rattle.listing.proofs.Whole.{line_fits, line_short, text_between}
use Rattle.listing.proofs.forms.put_text.Goals as goal

pub returns-then-out-at : goal.returns-then-out-at
returns-then-out-at c =
    let a = c.args in
    sym (line_short a.out.now a.at a.text.now (omega arith))

pub returns-then-out-at-2 : goal.returns-then-out-at-2
returns-then-out-at-2 c =
    let a = c.args in
    sym (line_short a.out.now a.at a.text.now (omega arith))

pub returns : goal.returns
returns c =
    let a = c.args in
    let end : ℕ = a.at + length a.text.now in
    let parts = ap₂ (λ (text behind : List ℕ). take a.at a.out.now ++ (text ++ behind)) c.copy_from_slice.ensures.after (Post-is a.at end a.out.now (omega arith)) in
    ap (λ (buffer : List ℕ). left buffer end) (parts ∙ sym (text_between a.out.now a.at a.text.now (omega arith)))
    ∙ sym (line_fits a.out.now a.at a.text.now (omega arith))
