-- The two returns are the two sides of the test on the ending.
-- Assumes nothing.
use mathlib.Core.Path.{sym, ◌∙◌}
use Rattle.gliding.proofs.Quiet.{quiet_ending, quiet_flag}
use Rattle.gliding.proofs.is_quiet.Goals as goal

pub returns-then-has_ending : goal.returns-then-has_ending
returns-then-has_ending c =
    let a = c.args in
    sym (quiet_ending a.t.now a.m.now a.state.0 a.place.0 (sym c.has_ending.ensures ∙ c.if-has_ending.true))

pub returns : goal.returns
returns c =
    let a = c.args in
    sym (quiet_flag a.t.now a.m.now a.state.0 a.place.0 (sym c.has_ending.ensures ∙ c.if-has_ending.false) c.slot_of.result c.slot_of.ensures.0)
