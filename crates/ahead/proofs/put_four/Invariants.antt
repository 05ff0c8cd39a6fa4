use mathlib.Core.Path.{◌≡◌}
use lib.ListN.{length}
use Rattle.ahead.specs.Cursors.{with_first}
use Rattle.ahead.proofs.put_four.Given as goal

abbrev pub invariant-loop-k : goal.invariant-loop-k
invariant-loop-k l = (l.ahead ≡ with_first l.initial.ahead l.at l.cursors l.k) × (length l.ahead ≡ length l.initial.ahead)
