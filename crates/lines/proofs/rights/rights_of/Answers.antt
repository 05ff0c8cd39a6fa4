-- In each turn the code of the phrases from here on is that of all. The measure is how many phrases are left to look at.
-- Assumes nothing.
use mathlib.Core.Path.{◌∙◌}
use native.Mathlib.Omega.{arith}
use Rattle.lines.proofs.Found.{search_start, search_end, turn_found, turn_next}
use Rattle.lines.proofs.rights.rights_of.Goals as goal

pub loop-j-init : goal.loop-j-init
loop-j-init c =
    let a = c.args in
    (c.phrase_count-phrases.ensures.0, omega arith, search_start a.t.now a.number.0 _ c.phrase_count-phrases.ensures.0)

pub returns-then-has_number : goal.returns-then-has_number
returns-then-has_number c =
    let a = c.args in
    let at = c.loop-j in
    turn_found a.t.now a.number.0 _ at.j (omega arith) c.has_number.ensures c.if-has_number.true _ c.code_at.ensures
    ∙ at.invariant.2

pub loop-j-preserved : goal.loop-j-preserved
loop-j-preserved c =
    let a = c.args in
    let at = c.loop-j in
    (at.invariant.0, omega arith, turn_next a.t.now a.number.0 _ at.j (omega arith) c.has_number.ensures c.if-has_number.false ∙ at.invariant.2)

pub returns : goal.returns
returns c =
    let a = c.args in
    let at = c.loop-j in
    search_end a.t.now a.number.0 _ at.j (omega arith) ∙ at.invariant.2
