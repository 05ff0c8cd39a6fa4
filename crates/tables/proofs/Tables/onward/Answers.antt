-- The two returns are the two sides of the test in `onward_in`.
-- Assumes nothing.
use mathlib.Core.Path.{sym, ◌∙◌}
use native.Mathlib.Omega.{arith}
use Rattle.tables.proofs.Followed.{onward_link, onward_none, linked_on}
use Rattle.tables.proofs.Tables.onward.Goals as goal

pub returns-then-link-gt-ROOM_FOR_PIECES : goal.returns-then-link-gt-ROOM_FOR_PIECES
returns-then-link-gt-ROOM_FOR_PIECES c =
    let a = c.args in
    (sym (onward_none a.self.now a.p (omega arith)), omega arith)

pub returns : goal.returns
returns c =
    let a = c.args in
    let linked = linked_on c.from-link.result _ c.checked_sub.ensures in
    (linked ∙ c.from-link.ensures ∙ c.link.ensures ∙ sym (onward_link a.self.now a.p (omega arith)), omega (arith, linked))
