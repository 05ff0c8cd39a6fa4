-- The two returns are the two sides of the test in `first_link_in`.
-- Assumes nothing.
use mathlib.Core.Path.{sym, ◌∙◌}
use native.Mathlib.Omega.{arith}
use Rattle.tables.proofs.Followed.{linked, first_link_none}
use Rattle.tables.proofs.Tables.first_link.Goals as goal

pub returns-then-has_ending : goal.returns-then-has_ending
returns-then-has_ending c =
    let a = c.args in
    linked a.self.now a.state.0 c.has_ending.ensures c.if-has_ending.true c.out.ensures.0 c.out.ensures.1

pub returns : goal.returns
returns c =
    let a = c.args in
    (sym (first_link_none a.self.now a.state.0 (sym c.has_ending.ensures ∙ c.if-has_ending.false)), omega arith)
