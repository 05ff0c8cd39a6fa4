-- The record's bytes are written one after the other.
-- Assumes nothing.
use mathlib.Core.List.{[], ◌∷◌}
use Rattle.sheet.specs.Sheets.{two_bytes}
use Rattle.sheet.proofs.Laws.{and_then}
use Rattle.sheet.proofs.Sheet.phrase.Goals as goal

pub returns : goal.returns
returns g c =
    let old = c.args.self.now in
    let begun = and_then g.row.N old _ _ (2 ∷ []) (two_bytes c.args.number) c.byte.ensures c.two.ensures in
    and_then g.row.N old _ _ (2 ∷ two_bytes c.args.number) (c.args.rights ∷ []) begun c.byte-2.ensures
