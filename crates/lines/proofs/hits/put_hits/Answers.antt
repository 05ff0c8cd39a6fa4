-- In each turn the lines that are left would make the buffer what all of them make it. The measure is how many are left.
-- Assumes nothing.
use mathlib.Core.Path.{refl, ap, ◌∙◌}
use native.Mathlib.Omega.{arith}
use Rattle.listing.specs.Writing.{left}
use Rattle.lines.specs.Hits.{hits_written}
use Rattle.lines.proofs.Written.{hits_next, hits_end}
use Rattle.lines.proofs.hits.put_hits.Goals as goal

pub loop-i-init : goal.loop-i-init
loop-i-init c =
    let a = c.args in
    (omega arith, refl, ap (λ n. hits_written a.t.now a.room.now 0 n (left a.out.now 0)) (omega arith))

pub loop-i-preserved : goal.loop-i-preserved
loop-i-preserved c =
    let a = c.args in
    let turn = c.loop-i in
    (omega arith, omega arith, hits_next a.t.now a.room.now a.reports turn.i (left turn.out turn.end) _ (omega arith) c.put_hit-end.ensures ∙ turn.invariant.2)

pub returns : goal.returns
returns c =
    let a = c.args in
    let turn = c.loop-i in
    hits_end a.t.now a.room.now a.reports turn.i (left turn.out turn.end) (omega arith) ∙ turn.invariant.2
