use mathlib.Core.Path.{◌≡◌}
use Prim.Native.Nat.{◌-◌, ◌≤◌}
use Rattle.linking.specs.Failures.{with_failures}
use Rattle.linking.proofs.failures.link_children.Given as goal

abbrev pub invariant-loop-child : goal.invariant-loop-child
invariant-loop-child l =
    let first = l.initial.child-iterator.start in
    let end = l.initial.child-iterator.end in
    let next = l.child-iterator.start in
    (l.child-iterator.end ≡ end) × (first ≤ next) × (next - first ≤ end - first) × (l.t ≡ with_failures l.initial.t l.states l.parent.0 first (next - first))
