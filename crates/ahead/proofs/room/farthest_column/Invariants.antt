use mathlib.Core.Path.{◌≡◌}
use Rattle.ahead.specs.Columns.{farthest}
use Rattle.ahead.proofs.room.farthest_column.Given as goal

abbrev pub invariant-loop-byte : goal.invariant-loop-byte
invariant-loop-byte l = l.last ≡ farthest l.t l.byte
