use mathlib.Core.Path.{◌≡◌}
use mathlib.Core.Bool.{false}
use lib.ListN.{drop}
use Rattle.tables.specs.Reads.{state_count_in, dense_in}
use Rattle.gliding.specs.Glide.{glide_in}
use Rattle.gliding.specs.Going.{gone_to}
use Rattle.gliding.proofs.Turns.{Gliding}
use Rattle.gliding.proofs.glide.Given as goal

abbrev pub invariant-loop-at : goal.invariant-loop-at
invariant-loop-at l =
    (l.states ≡ state_count_in l.t) × (l.dense ≡ dense_in l.t) × (l.going.event ≡ false) × (l.going.taken ≡ l.at)
    × Gliding l.t l.m l.part (gone_to l.initial.going) (glide_in l.t l.m (drop l.initial.going.taken l.part) (gone_to l.initial.going)) (gone_to l.going)
