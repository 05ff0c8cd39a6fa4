-- The two ends are the two sides of the test.
-- Assumes nothing.
use mathlib.Core.Path.{sym, ◌∙◌}
use Rattle.endings.proofs.Turns.{inherited_own, inherited_read}
use Rattle.endings.proofs.inherit.Goals as goal

pub returns-then-has_ending : goal.returns-then-has_ending
returns-then-has_ending c =
    let a = c.args in
    sym (inherited_own a.t.now a.state.0 (sym (rw c.of-tables.ensures at c.has_ending.ensures) ∙ c.if-has_ending.true))

pub returns : goal.returns
returns c =
    let a = c.args in
    c.put_ending.ensures
    ∙ inherited_read a.t.now a.state.0
    (sym (rw c.of-tables.ensures at c.has_ending.ensures) ∙ c.if-has_ending.false)
    (rw c.of-tables.ensures at c.failure-back.ensures.0)
    (rw c.of-tables.ensures at c.out-out.ensures.0)
    (rw c.of-tables.ensures at c.info-info.ensures)
