-- Each turn takes the next block of the definition, until that has no byte or was not taken whole. The measure is how many bytes remain.
-- Assumes nothing.
use mathlib.Core.Path.{◌∙◌}
use native.Mathlib.Omega.{arith}
use Rattle.feeding.proofs.AllBlocks.{blocks_start, block_counted, block_word, block_end_word, block_ready, block_kept, block_stopped, block_less, blocks_next, blocks_done}
use Rattle.feeding.proofs.blocks.take_blocks.Goals as goal

pub loop-quarter-init : goal.loop-quarter-init
loop-quarter-init c = blocks_start c.requires c.phrase_count-phrases.ensures.0 c.quarter_of-quarter.ensures

pub overflow_mul-end : goal.overflow_mul-end
overflow_mul-end c =
    let blocks = c.loop-quarter.invariant in
    block_word blocks

pub overflow_add-end : goal.overflow_add-end
overflow_add-end c =
    let blocks = c.loop-quarter.invariant in
    block_end_word blocks

pub take_block-progress-requires : goal.take_block-progress-requires
take_block-progress-requires c =
    let blocks = c.loop-quarter.invariant in
    block_ready blocks c.loop-quarter-test.true

pub shape_of-m-then-progress-end : goal.shape_of-m-then-progress-end
shape_of-m-then-progress-end c = c.take_block-progress.auto.m ∙ c.loop-quarter.invariant.long

pub shape_of-room-then-progress-end : goal.shape_of-room-then-progress-end
shape_of-room-then-progress-end c = c.take_block-progress.auto.room ∙ c.loop-quarter.invariant.roomy

pub returns-then-progress-end : goal.returns-then-progress-end
returns-then-progress-end c =
    let blocks = c.loop-quarter.invariant in
    block_stopped blocks c.take_block-progress.ensures c.if-progress-end.true

pub overflow_sub-part-in-loop-quarter : goal.overflow_sub-part-in-loop-quarter
overflow_sub-part-in-loop-quarter c =
    let blocks = c.loop-quarter.invariant in
    (block_kept blocks c.take_block-progress.ensures).kept.within

pub overflow_sub-free-in-loop-quarter : goal.overflow_sub-free-in-loop-quarter
overflow_sub-free-in-loop-quarter c =
    let blocks = c.loop-quarter.invariant in
    let kept = block_kept blocks c.take_block-progress.ensures in
    omega (arith, kept.few, blocks.spare)

pub quarter_of-quarter-requires-in-loop-quarter : goal.quarter_of-quarter-requires-in-loop-quarter
quarter_of-quarter-requires-in-loop-quarter c =
    let blocks = c.loop-quarter.invariant in
    block_counted blocks

pub loop-quarter-smaller : goal.loop-quarter-smaller
loop-quarter-smaller c =
    let blocks = c.loop-quarter.invariant in
    block_less blocks c.take_block-progress.ensures c.loop-quarter-test.true c.if-progress-end.false

pub loop-quarter-preserved : goal.loop-quarter-preserved
loop-quarter-preserved c =
    let blocks = c.loop-quarter.invariant in
    let took = c.take_block-progress in
    blocks_next blocks took.ensures c.quarter_of-quarter-in-loop-quarter.ensures took.auto.m took.auto.room

pub returns : goal.returns
returns c =
    let blocks = c.loop-quarter.invariant in
    blocks_done blocks (omega (arith, c.loop-quarter-test.false))
