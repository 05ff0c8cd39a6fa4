-- The infos are a part of the memory, and in it the place that is read is that of the state, whose index is its number.
-- Assumes nothing.
use native.Mathlib.Omega.{arith}
use Rattle.tables.proofs.Cells.{info_read}
use Rattle.tables.proofs.Tables.info.Goals as goal

pub returns : goal.returns
returns c =
    rw (← c.self.view_is) (info_read c.self.inside.bytes.now (omega arith) c.index.ensures.0)
