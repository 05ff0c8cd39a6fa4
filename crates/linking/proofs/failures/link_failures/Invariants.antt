use mathlib.Core.Path.{◌≡◌}
use Prim.Native.Nat.{◌-◌, ◌≤◌}
use Rattle.linking.specs.Failures.{with_parents}
use Rattle.linking.proofs.failures.link_failures.Given as goal

abbrev pub invariant-loop-parent : goal.invariant-loop-parent
invariant-loop-parent l = (l.parent - 1 ≤ l.states - 1) × (l.t ≡ with_parents l.initial.t l.states (l.parent - 1))
