-- The record's bytes are written one after the other.
-- Assumes nothing.
use mathlib.Core.Path.{ap, ◌∙◌}
use Rattle.sheet.specs.Sheets.{Sheet, with_all, two_bytes}
use Rattle.sheet.proofs.end.Goals as goal

pub returns : goal.returns
unfolding with_all
returns c =
    let a = c.args in
    c.two.ensures ∙ ap (λ (sheet : Sheet). with_all sheet (two_bytes a.phrases)) c.byte-field.ensures
