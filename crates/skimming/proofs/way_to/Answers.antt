-- The state is the one that was looked up for the last place.
-- Assumes nothing.
use mathlib.Core.Path.{ap}
use Prim.Native.Nat.{ℕ, ◌-◌}
use Rattle.gliding.specs.Glide.{Glide}
use Rattle.skimming.proofs.way_to.Goals as goal

pub returns : goal.returns
returns c =
    let a = c.args in
    ap {B = Glide}
    (λ (s : ℕ). record { gone = record { state = s; place = a.looking.place.0; taken = a.bytes - a.looking.left; gains = a.looking.gains }; event = a.looking.event })
    c.numbered.ensures
