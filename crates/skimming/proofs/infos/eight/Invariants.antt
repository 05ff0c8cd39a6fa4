use mathlib.Core.Path.{◌≡◌}
use Prim.Native.Nat.{◌*◌, ◌≤◌}
use Rattle.skimming.specs.Infos.{infos_in}
use Rattle.skimming.proofs.infos.eight.Given as goal

abbrev pub invariant-loop-i : goal.invariant-loop-i
invariant-loop-i l = (l.sum ≡ infos_in l.t l.ahead l.at l.i) × (l.sum ≤ 255 * l.i)
