use Rattle.std.proofs.Common.{◌≤◌, length, rules}
use Rattle.lines.specs.Answers.{opened_end}
use Rattle.pipes.proofs.letter.start.Goals as goal

pub slice_bounds-write_whole-end : goal.slice_bounds-write_whole-end
unfolding opened_end
slice_bounds-write_whole-end g c =
    let inside : c.in-Ok.end ≤ length c.args.line.now = rw c.in-Ok.is at c.requires in
    search rules

pub slice_bounds-write_whole-end-in-Err : goal.slice_bounds-write_whole-end-in-Err
unfolding opened_end
slice_bounds-write_whole-end-in-Err g c =
    let inside : c.in-Err.refused.end ≤ length c.args.line.now = rw c.in-Err.is at c.requires in
    search rules
