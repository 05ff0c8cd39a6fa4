-- The state is the one with the index.
-- Assumes nothing.
use mathlib.Core.Path.{ap}
use Prim.Native.Nat.{ℕ}
use Rattle.gliding.specs.Glide.{Glide}
use Rattle.gliding.proofs.way_to.Goals as goal

pub returns : goal.returns
returns c =
    let a = c.args in
    ap {B = Glide}
    (λ (i : ℕ). record { gone = record { state = i; place = a.going.place.0; taken = a.going.taken; gains = a.going.gains }; event = a.going.event })
    c.state_at.ensures
