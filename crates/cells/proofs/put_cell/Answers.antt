-- What is written is the next state, at the place of its cell.
-- Assumes nothing.
use Rattle.cells.specs.Cells.{with_cell}
use Rattle.cells.proofs.put_cell.Goals as goal

pub returns : goal.returns
unfolding with_cell
returns c = rw (c.put2.ensures, c.index.ensures.0, c.next_of-next.ensures.0, c.of.ensures)
