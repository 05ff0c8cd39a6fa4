-- The reading goes from mark to mark: at each turn one report is written, and what is left to write comes to the same goal.
-- It ends where no mark is left, or past the last phrase. The measure is how many ranks are left. Assumes nothing.
use mathlib.Core.Path.{ap, ◌∙◌}
use mathlib.Core.List.{[], ◌∷◌}
use Prim.Native.Nat.{◌*◌}
use native.Mathlib.Omega.{arith}
use Rattle.lent.specs.Numbers.{with_bytes}
use borrow.Author.Rules.{rules}
use Rattle.marks.specs.Reported.{entries}
use Rattle.marks.proofs.Reported.{reading_start, reading_next, reading_end}
use Rattle.marks.proofs.put_reports.Goals as goal

pub loop-rank-init : goal.loop-rank-init
loop-rank-init c =
    reading_start c.phrase_count-phrases.ensures.0

pub loop-rank-preserved : goal.loop-rank-preserved
loop-rank-preserved c =
    let a = c.args in
    let put = c.put_report in
    let wrote = put.ensures ∙ ap (λ j. with_bytes c.loop-rank.room (2 * c.loop-rank.count) (entries a.t.now a.place.0 (j ∷ []))) c.of.ensures in
    reading_next c.loop-rank.invariant (omega arith) c.in-Some.rank c.in-Some.ensures.0 (omega arith) put.new.room wrote

pub returns-in-loop-rank : goal.returns-in-loop-rank
returns-in-loop-rank c =
    reading_end c.loop-rank.invariant 128 (search rules) (omega arith)

pub returns-else-rank-phrases : goal.returns-else-rank-phrases
returns-else-rank-phrases c =
    reading_end c.loop-rank.invariant c.in-Some.rank c.in-Some.ensures.0 (omega arith)
