-- The bytes of the slot become zero, and then its flag.
-- Assumes nothing.
use mathlib.Core.Path.{ap}
use mathlib.Core.List.{List}
use Prim.Native.Nat.{ℕ, ◌+◌}
use lib.ListN.{set}
use Rattle.running.specs.Layout.{flag_at}
use Rattle.window.specs.Opening.{slot_emptied}
use Rattle.window.proofs.opens.empty_slot.Goals as goal

pub returns : goal.returns
unfolding slot_emptied
returns c = ap (λ (m : List ℕ). set m (flag_at + c.args.slot) 0) c.clear.ensures
