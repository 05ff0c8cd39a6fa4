-- The three passes are those of the definition, one after the other.
-- Assumes nothing.
use Rattle.builder.proofs.Rows.{rows_stored}
use Rattle.builder.proofs.passes.fill_rows.Goals as goal

pub returns : goal.returns
returns c =
    let a = c.args in
    rows_stored a.t.now _ _ _ a.states _ c.fill-dense.ensures.value.0 c.fill-dense.ensures.value.1 c.fill.ensures c.fill-2.ensures
