use mathlib.Core.Path.{◌≡◌}
use Prim.Native.Nat.{◌<◌}
use Rattle.linking.specs.Keywords.{state_down}
use Rattle.linking.proofs.keywords.state_of_keyword.Given as goal

abbrev pub invariant-loop-byte : goal.invariant-loop-byte
invariant-loop-byte l = (l.state.0 ≡ state_down l.t l.states l.keyword l.byte-index) × (l.state.0 < l.states)
