-- Each turn takes a quarter, whose states were looked up, and all bytes of the block up to there.
-- Assumes nothing.
use mathlib.Core.Path.{sym, ◌∙◌}
use Rattle.feeding.proofs.Quarters.{quarters_start, quarters_all, quarter_word, quarter_long, quarter_ready, quarter_stopped, quarter_next_lem}
use Rattle.feeding.proofs.blocks.take_quarters.Goals as goal

pub loop-k-init : goal.loop-k-init
loop-k-init c = quarters_start c.requires

pub overflow_add-end : goal.overflow_add-end
overflow_add-end c = quarter_word c.loop-k.invariant c.loop-k-test.true

pub slice_bounds-take_quarter-end : goal.slice_bounds-take_quarter-end
slice_bounds-take_quarter-end c = sym (quarter_long c.loop-k.invariant c.loop-k-test.true)

pub take_quarter-progress-requires : goal.take_quarter-progress-requires
take_quarter-progress-requires c = quarter_ready c.loop-k.invariant c.loop-k-test.true

pub shape_of-m-then-progress-end : goal.shape_of-m-then-progress-end
shape_of-m-then-progress-end c = c.take_quarter-progress.auto.m ∙ c.loop-k.invariant.long

pub shape_of-room-then-progress-end : goal.shape_of-room-then-progress-end
shape_of-room-then-progress-end c = c.take_quarter-progress.auto.room ∙ c.loop-k.invariant.roomy

pub returns-then-progress-end : goal.returns-then-progress-end
returns-then-progress-end c = quarter_stopped c.loop-k.invariant c.loop-k-test.true c.take_quarter-progress.ensures c.if-progress-end.true

pub loop-k-preserved : goal.loop-k-preserved
loop-k-preserved c =
    let took = c.take_quarter-progress in
    quarter_next_lem c.loop-k.invariant c.loop-k-test.true took.ensures c.if-progress-end.false took.auto.m took.auto.room

pub returns : goal.returns
returns c = quarters_all c.loop-k.invariant c.loop-k-test.false
