use mathlib.Core.Path.{◌≡◌}
use Prim.Native.Nat.{◌-◌, ◌≤◌}
use Rattle.depths.specs.Depths.{with_gains}
use Rattle.depths.proofs.put_gains.Given as goal

abbrev pub invariant-loop-child : goal.invariant-loop-child
invariant-loop-child l =
    let first = l.initial.child-iterator.start in
    let end = l.initial.child-iterator.end in
    let next = l.child-iterator.start in
    (l.child-iterator.end ≡ end) × (first ≤ next) × (next - first ≤ end - first) × (l.t ≡ with_gains l.initial.t l.parent.0 first (next - first))
