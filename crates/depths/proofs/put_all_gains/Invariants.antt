use mathlib.Core.Path.{◌≡◌}
use Rattle.depths.specs.Depths.{with_gains_below}
use Rattle.depths.proofs.put_all_gains.Given as goal

abbrev pub invariant-loop-parent : goal.invariant-loop-parent
invariant-loop-parent l = l.t ≡ with_gains_below l.initial.t l.states l.parent
