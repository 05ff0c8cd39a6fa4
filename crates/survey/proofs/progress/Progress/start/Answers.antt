-- The rank is made of 0. Assumes nothing.
use Rattle.counters.proofs.Same.{same_rank}
use Rattle.survey.proofs.progress.Progress.start.Goals as goal

pub returns : goal.returns
returns c = rw (same_rank c.of.ensures)
