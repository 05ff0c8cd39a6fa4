-- The rank is the index as a byte. Assumes nothing.
use mathlib.Core.Path.{ap, ◌∙◌}
use Rattle.tables.specs.Reads.{phrase_rights_in}
use Rattle.lines.proofs.rights.code_at.Goals as goal

pub returns : goal.returns
returns c =
    let a = c.args in
    c.from.ensures ∙ c.phrase_rights.ensures ∙ ap (phrase_rights_in a.t.now) c.of.ensures
