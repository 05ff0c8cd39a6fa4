-- The five numbers are written one after the other, as the definition has them. Assumes nothing.
use Rattle.tables.specs.Layout.{tables_tag}
use Rattle.builder.specs.Passes.{with_header}
use Rattle.builder.proofs.Headed.{five_stored}
use Rattle.builder.proofs.header.put_header.Goals as goal

pub returns : goal.returns
unfolding with_header tables_tag
returns c =
    five_stored _ _ _ _ _ _ _ _ _ _ _ _ _ _ _ _ c.put2.ensures c.put2-2.ensures
    c.put2-3.ensures c.put8.ensures c.put8-2.ensures
