-- The two ends are the two sides of the test.
-- Assumes nothing.
use mathlib.Core.Path.{sym, ◌∙◌}
use Rattle.endings.proofs.Turns.{link_on_kept, link_on_read}
use Rattle.endings.proofs.link_on.Goals as goal

pub returns-then-link-eq0 : goal.returns-then-link-eq0
returns-then-link-eq0 c =
    let a = c.args in
    c.put_link.ensures
    ∙ link_on_read a.t.now a.state.0 a.p
    (sym (rw c.of-tables.ensures at c.link.ensures) ∙ c.if-link-eq0.true)
    (rw c.of-tables.ensures at c.failure.ensures.0)
    (rw c.of-tables.ensures at c.first_link-next.ensures.0)

pub returns-else-link-eq0 : goal.returns-else-link-eq0
returns-else-link-eq0 c =
    let a = c.args in
    sym (link_on_kept a.t.now a.state.0 a.p (λ e. c.if-link-eq0.false ((rw c.of-tables.ensures at c.link.ensures) ∙ e)))
