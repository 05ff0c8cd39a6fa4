-- The two returns are the two sides of the test in `back_in`.
-- Assumes nothing.
use Rattle.tables.proofs.Followed.{followed, not_followed}
use Rattle.tables.proofs.Tables.failure.Goals as goal

pub returns-then-fail-number : goal.returns-then-fail-number
returns-then-fail-number c =
    rw (← c.self.view_is) (followed c.self.inside.bytes.now c.index.ensures.0 c.get2-fail.ensures c.number.ensures c.if-fail-number.true c.numbered.ensures)

pub returns : goal.returns
returns c =
    rw (← c.self.view_is) (not_followed c.self.inside.bytes.now c.index.ensures.0 c.get2-fail.ensures c.number.ensures c.if-fail-number.false c.root.ensures)
