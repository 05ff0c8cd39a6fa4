-- Blocks are taken ahead, and then the rest: what is left behind the blocks comes to what the whole part comes to.
-- Assumes nothing.
use mathlib.Core.Path.{◌∙◌}
use Rattle.feeding.proofs.Upto.{ready_start}
use Rattle.feeding.proofs.AllBlocks.{rest_ready, rest_took}
use Rattle.feeding.proofs.take_bytes.Goals as goal

pub take_ahead-progress-requires : goal.take_ahead-progress-requires
take_ahead-progress-requires c =
    ready_start c.args.state c.args.place _ c.requires

pub take_rest-requires : goal.take_rest-requires
take_rest-requires c =
    let ahead = c.take_ahead-progress in
    rest_ready (ready_start c.args.state c.args.place _ c.requires) ahead.ensures ahead.auto.room ahead.auto.m

pub shape_of-m : goal.shape_of-m
shape_of-m c = c.take_rest.auto.m ∙ c.take_ahead-progress.auto.m

pub shape_of-room : goal.shape_of-room
shape_of-room c = c.take_rest.auto.room ∙ c.take_ahead-progress.auto.room

pub returns : goal.returns
returns c =
    let ahead = c.take_ahead-progress in
    let took = rest_took (ready_start c.args.state c.args.place _ c.requires) ahead.ensures ahead.auto.room c.take_rest.ensures in
    (took.all, took.kept.kept)
