use Rattle.std.proofs.Common.{◌≡◌, ◌++◌, take}
use Rattle.sheet.proofs.Sheet.bytes.Given as goal

abbrev pub invariant-loop-value : goal.invariant-loop-value
invariant-loop-value g l = l.self ≡ take g.row.N (l.fn.self ++ take l.value-index l.values)
