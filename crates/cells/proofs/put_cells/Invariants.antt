use mathlib.Core.Path.{◌≡◌}
use Rattle.cells.specs.Cells.{with_cells}
use Rattle.cells.proofs.put_cells.Given as goal

abbrev pub invariant-loop-i : goal.invariant-loop-i
invariant-loop-i l = l.t ≡ with_cells l.initial.t l.states l.column.start l.column.byte l.i
