use mathlib.Core.Path.{◌≡◌}
use Prim.Native.Nat.{◌<◌}
use Rattle.tables.specs.Reads.{state_count_in, dense_in}
use Rattle.ahead.specs.Ahead.{Mended}
use Rattle.ahead.proofs.mend.Given as goal

abbrev pub invariant-loop-i : goal.invariant-loop-i
invariant-loop-i l = (l.states ≡ state_count_in l.t) × (l.dense ≡ dense_in l.t) × (l.index < l.states) × Mended l.t l.part l.from l.i l.k l.state l.index l.initial.ahead l.ahead
