-- The next mark is the next bit.
-- Assumes nothing.
use Rattle.marks.specs.Marked.{is_marked}
use Rattle.marks.proofs.Marks.next.Goals as goal

pub returns : goal.returns
unfolding is_marked
returns c = c.next.ensures
