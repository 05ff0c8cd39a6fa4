use mathlib.Core.Path.{◌≡◌}
use Rattle.cells.specs.Cells.{with_rows}
use Rattle.cells.proofs.fill.Given as goal

abbrev pub invariant-loop-byte : goal.invariant-loop-byte
invariant-loop-byte l = l.t ≡ with_rows l.initial.t l.states l.dense l.byte
