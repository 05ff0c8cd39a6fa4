-- The record's bytes are written one after the other.
-- Assumes nothing.
use mathlib.Core.Path.{ap, ◌∙◌}
use Rattle.sheet.specs.Sheets.{Sheet, with_byte, with_all, two_bytes}
use Rattle.sheet.proofs.phrase.Goals as goal

pub returns : goal.returns
unfolding with_all
returns c =
    let a = c.args in
    c.byte.ensures ∙ ap (λ (sheet : Sheet). with_byte sheet a.rights) (c.two-last.ensures ∙ ap (λ (sheet : Sheet). with_all sheet (two_bytes a.number)) c.byte-field.ensures)
