-- The two ways are the two cases of the test.
-- Assumes nothing.
use mathlib.Core.Path.{sym, ap, ◌∙◌}
use Rattle.window.specs.Waiting.{with_waiting_from}
use Rattle.window.proofs.Begun.{first_waits, other_waits_not}
use Rattle.window.proofs.begins.wait_if_first.Goals as goal

pub returns-then-is_first : goal.returns-then-is_first
returns-then-is_first c =
    let a = c.args in
    c.wait_from.ensures
    ∙ ap (with_waiting_from a.t.now a.m.now a.piece) c.start.ensures
    ∙ sym (first_waits a.t.now a.m.now a.piece (sym c.is_first.ensures ∙ c.if-is_first.true))

pub returns-else-is_first : goal.returns-else-is_first
returns-else-is_first c =
    let a = c.args in
    sym (other_waits_not a.t.now a.m.now a.piece (sym c.is_first.ensures ∙ c.if-is_first.false))
