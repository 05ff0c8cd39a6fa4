use Rattle.std.proofs.Common.{◌≡◌, ◌++◌, take}
use Rattle.std.proofs.Math.ListN.{replicate}
use Rattle.sheet.proofs.Sheet.many.Given as goal

abbrev pub invariant-loop-n : goal.invariant-loop-n
invariant-loop-n g l = l.self ≡ take g.row.N (l.fn.self ++ replicate l.n l.value)
