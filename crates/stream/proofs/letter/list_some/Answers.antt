use Rattle.lines.specs.Answers.{listed_taken}
use Rattle.pipes.proofs.Taken.{after_within}
use Rattle.stream.proofs.Left.{taken_left}
use Rattle.stream.proofs.letter.list_some.Goals as goal

pub returns : goal.returns
returns g c =
    let a = c.args in
    let call = c.list_part-listed in
    after_within a.standing call.result c.after.result
    (taken_left a.part.now a.standing.used a.standing.size (listed_taken call.result) c.requires.0 call.ensures.result_in_bounds.0)
    c.after.ensures
