use mathlib.Core.Path.{◌≡◌}
use Prim.Native.Nat.{◌-◌, ◌≤◌}
use Rattle.tables.specs.Reads.{phrase_count_in}
use Rattle.lines.specs.Rights.{rights_from, rights_in}
use Rattle.lines.proofs.rights.rights_of.Given as goal

abbrev pub invariant-loop-j : goal.invariant-loop-j
invariant-loop-j l =
    (l.phrases ≡ phrase_count_in l.t) × (l.j ≤ l.phrases) × (rights_from l.t l.number.0 l.j (l.phrases - l.j) ≡ rights_in l.t l.number.0)
