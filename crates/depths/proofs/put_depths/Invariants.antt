use mathlib.Core.Path.{◌≡◌}
use Rattle.depths.specs.Depths.{with_depths}
use Rattle.depths.proofs.put_depths.Given as goal

abbrev pub invariant-loop-i : goal.invariant-loop-i
invariant-loop-i l = l.t ≡ with_depths l.initial.t l.i
