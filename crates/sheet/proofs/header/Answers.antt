-- The record's bytes are written one after the other.
-- Assumes nothing.
use mathlib.Core.Path.{ap, ◌∙◌}
use Rattle.sheet.specs.Sheets.{Sheet, with_byte, with_all}
use Rattle.sheet.proofs.header.Goals as goal

pub returns : goal.returns
unfolding with_all
returns c =
    let a = c.args in
    c.byte.ensures ∙ ap (λ (sheet : Sheet). with_byte sheet a.edition) c.byte-field.ensures
