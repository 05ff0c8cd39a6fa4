use mathlib.Core.Path.{◌≡◌}
use Prim.Native.Nat.{◌-◌}
use Rattle.stepping.specs.Steps.{labelled_in}
use Rattle.stepping.proofs.labelled.Given as goal

abbrev pub invariant-loop-i : goal.invariant-loop-i
invariant-loop-i l = labelled_in l.t l.byte (l.fn.among.end - l.fn.among.start) l.fn.among.start ≡ labelled_in l.t l.byte (l.fn.among.end - l.i) l.i
