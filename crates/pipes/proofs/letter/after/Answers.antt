use Rattle.std.proofs.Common.{◌≤◌, length, rules}
use Rattle.lines.specs.Answers.{listed_taken, listed_end}
use Rattle.pipes.proofs.letter.after.Goals as goal

pub took-requires : goal.took-requires
unfolding listed_taken
took-requires g c = rw c.in-Ok.is at c.requires.0

pub slice_bounds-write_whole-end : goal.slice_bounds-write_whole-end
unfolding listed_end
slice_bounds-write_whole-end g c =
    let inside : c.in-Ok.listed.end ≤ length c.args.lines.now = rw c.in-Ok.is at c.requires.1 in
    search rules
