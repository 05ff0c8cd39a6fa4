use mathlib.Core.Path.{◌≡◌}
use mathlib.Core.Bool.{false}
use Rattle.skimming.specs.Look.{look_from}
use Rattle.skimming.specs.Ready.{look_of, LookKept}
use Rattle.skimming.proofs.skim.Given as goal

abbrev pub invariant-loop-looking : goal.invariant-loop-looking
invariant-loop-looking l =
    (l.looking.event ≡ false) × LookKept l.initial.looking l.looking × (look_from l.t l.m l.ahead (look_of l.looking) ≡ look_from l.t l.m l.ahead (look_of l.initial.looking))

abbrev pub decreases-loop-looking : goal.decreases-loop-looking
decreases-loop-looking l = l.looking.left
