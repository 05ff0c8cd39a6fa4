-- The second comparison decides where the first one holds.
-- Assumes nothing.
use mathlib.Core.Path.{sym, ◌∙◌}
use borrow.Author.Tests.{lt-leb}
use Rattle.tables.proofs.Passing.{between_low, between_under}
use Rattle.tables.proofs.between.Goals as goal

pub returns-then-low-n : goal.returns-then-low-n
returns-then-low-n c = sym (between_low _ _ _ c.if-low-n.true)

pub returns-else-low-n : goal.returns-else-low-n
returns-else-low-n c = lt-leb _ _ c.if-low-n.false ∙ sym (between_under _ _ _ c.if-low-n.false)
