-- Clauses see the bytes of the tables.
-- Assumes nothing.
use Rattle.tables.proofs.Tables.cell_at.Goals as goal

pub returns : goal.returns
returns c = rw (← c.self.view_is) c.cell_with.ensures
