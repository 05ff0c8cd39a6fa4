-- The code compares what the definition does.
-- Assumes nothing.
use mathlib.Core.Path.{ap₂}
use Prim.Native.Nat.{ℕ}
use lib.Dec.{leb}
use Rattle.seeking.specs.Quick.{last_column}
use Rattle.ahead.specs.Columns.{columns_fit}
use Rattle.ahead.proofs.room.columns_fit.Goals as goal

pub returns : goal.returns
unfolding columns_fit
returns c = ap₂ (λ (last dense : ℕ). leb last (last_column dense)) c.farthest_column.ensures c.dense.ensures.0
