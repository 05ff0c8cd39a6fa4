use mathlib.Core.Path.{◌≡◌}
use Rattle.tables.specs.Reads.{state_count_in, dense_in}
use Rattle.ahead.specs.Ahead.{Ran}
use Rattle.ahead.proofs.run_four.Given as goal

abbrev pub invariant-loop-i : goal.invariant-loop-i
invariant-loop-i l = (l.states ≡ state_count_in l.t) × (l.dense ≡ dense_in l.t) × Ran l.t l.part l.first l.quarter l.i l.initial.cursors l.cursors l.initial.ahead l.ahead
