-- The four parts are written one after the other. Assumes nothing.
use Rattle.survey.specs.Entries.{with_piece}
use Rattle.survey.proofs.entries.put_piece.Goals as goal

pub returns : goal.returns
unfolding with_piece
returns c =
    rw (c.value.ensures, c.put2-2.ensures, c.put2.ensures)
