-- The high byte is written, and then the low one.
-- Assumes nothing.
use mathlib.Core.Path.{ap, ◌∙◌}
use Prim.Native.Nat.{◌%◌}
use Rattle.sheet.specs.Sheets.{Sheet, with_byte, with_all}
use Rattle.sheet.proofs.two.Goals as goal

pub returns : goal.returns
unfolding with_all
returns c =
    let a = c.args in
    c.byte.ensures ∙ ap (λ (sheet : Sheet). with_byte sheet (a.value % 256)) c.byte-high.ensures
