-- The number is the definition's.
-- Assumes nothing.
use Rattle.columns.specs.Columns.{most_rows}
use Rattle.columns.proofs.most_rows.Goals as goal

pub returns-clause-value : goal.returns-clause-value
unfolding most_rows
returns-clause-value c = c.min.ensures
