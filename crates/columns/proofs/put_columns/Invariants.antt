use mathlib.Core.Path.{◌≡◌}
use Rattle.columns.specs.Columns.{with_columns}
use Rattle.columns.proofs.put_columns.Given as goal

abbrev pub invariant-loop-byte : goal.invariant-loop-byte
invariant-loop-byte l = l.t ≡ with_columns l.initial.t l.dense l.byte
