-- The returns are the cases of the definition: past, last, and any other.
-- Assumes nothing.
use mathlib.Core.Path.{sym, ap, ◌∙◌}
use Rattle.marks.specs.declared.Marks.{Marks}
use Rattle.marks.specs.Marked.{with_mark}
use Rattle.window.specs.Ending.{ended_with}
use Rattle.window.proofs.Ending.{ended_past, ended_last, ended_more}
use Rattle.window.proofs.ends.piece_ends.Goals as goal

pub returns-then-is_past : goal.returns-then-is_past
returns-then-is_past c =
    let a = c.args in
    sym (ended_past a.t.now a.place.0 a.marks a.m.now a.piece (sym c.is_past.ensures ∙ c.if-is_past.true))

pub returns-then-is_last : goal.returns-then-is_last
returns-then-is_last c =
    let a = c.args in
    ap (λ (marks : Marks). ended_with marks a.m.now) (c.with.ensures ∙ ap (with_mark a.marks) c.rank.ensures)
    ∙ sym (ended_last a.t.now a.place.0 a.marks a.m.now a.piece
    (sym c.is_past.ensures ∙ c.if-is_past.false)
    (sym c.is_last.ensures ∙ c.if-is_last.true))

pub returns : goal.returns
returns c =
    let a = c.args in
    ap (ended_with a.marks) c.wait_from.ensures
    ∙ sym (ended_more a.t.now a.place.0 a.marks a.m.now a.piece
    (sym c.is_past.ensures ∙ c.if-is_past.false)
    (sym c.is_last.ensures ∙ c.if-is_last.false))
