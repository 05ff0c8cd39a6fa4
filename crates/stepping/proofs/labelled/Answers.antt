-- `labelled` meets its contract: the search from i on finds what the whole search finds.
-- Assumes nothing.
use mathlib.Core.Path.{sym, ◌∙◌}
use native.Mathlib.Omega.{arith}
use Rattle.stepping.proofs.Turns.{search_found, search_further, search_end}
use Rattle.stepping.proofs.labelled.Goals as goal

pub returns-then-i-eq0-clause-value : goal.returns-then-i-eq0-clause-value
returns-then-i-eq0-clause-value c =
    let a = c.args in
    let here = c.numbered-state in
    let found = search_found a.t.now a.byte c.loop-i.i a.among.end here.result.0 here.ensures (omega arith) (sym c.label.ensures ∙ c.if-label-byte.true) in
    omega (arith, c.loop-i.invariant, found, here.ensures, c.if-i-eq0.true)

pub returns-else-i-eq0-clause-value : goal.returns-else-i-eq0-clause-value
returns-else-i-eq0-clause-value c =
    let a = c.args in
    let here = c.numbered-state in
    let found = search_found a.t.now a.byte c.loop-i.i a.among.end here.result.0 here.ensures (omega arith) (sym c.label.ensures ∙ c.if-label-byte.true) in
    sym (c.loop-i.invariant ∙ found)

pub loop-i-preserved : goal.loop-i-preserved
loop-i-preserved c =
    let a = c.args in
    let here = c.numbered-state in
    c.loop-i.invariant
    ∙ search_further a.t.now a.byte c.loop-i.i a.among.end here.result.0 here.ensures (omega arith) (λ e. c.if-label-byte.false (c.label.ensures ∙ e))

pub returns-clause-value : goal.returns-clause-value
returns-clause-value c =
    let a = c.args in
    sym (c.loop-i.invariant ∙ search_end a.t.now a.byte c.loop-i.i a.among.end (omega arith))
