use mathlib.Core.Path.{◌≡◌}
use lib.ListN.{length}
use Rattle.filling.specs.Turns.{progress, with_children}
use Rattle.filling.proofs.turns.number_children.Given as goal

abbrev pub invariant-loop-byte : goal.invariant-loop-byte
invariant-loop-byte l =
    (progress l.t l.numbering.starts l.numbering.states ≡ with_children l.count l.onward l.byte (progress l.initial.t l.initial.numbering.starts l.initial.numbering.states)) × (length l.t ≡ length l.initial.t)
