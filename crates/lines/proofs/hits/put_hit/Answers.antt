-- What is read of the report makes its line. Assumes nothing.
use mathlib.Core.Path.{◌∙◌}
use Rattle.lines.proofs.Written.{hit_turn}
use Rattle.lines.proofs.hits.put_hit.Goals as goal

pub returns : goal.returns
returns c =
    let a = c.args in
    hit_turn a.t.now a.room.now a.out.now a.i a.at _ _ _ c.of-number.ensures (c.at-place.ensures ∙ c.from.ensures) c.rights_of-rights.ensures _ _ c.hit_line.ensures
