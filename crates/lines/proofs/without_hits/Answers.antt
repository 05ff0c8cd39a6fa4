-- The comparison is the definition's test. Assumes nothing.
use mathlib.Core.Path.{refl}
use Rattle.lines.specs.Last.{without_hits}
use Rattle.lines.proofs.without_hits.Goals as goal

pub returns : goal.returns
unfolding without_hits
returns c = refl
