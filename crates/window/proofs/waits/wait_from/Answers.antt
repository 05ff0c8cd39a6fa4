-- Two stores, the bit and the flag, are what the definition says; the slot is that of the place a delay later.
-- Assumes nothing.
use native.Mathlib.Omega.{arith}
use Rattle.bits.proofs.Bits.{set_stored}
use Rattle.window.proofs.Waiting.{waiting_stored}
use Rattle.window.proofs.waits.wait_from.Goals as goal

pub returns : goal.returns
returns c = waiting_stored _ _ _ _ c.slot_of-slot.result _ (omega arith) (set_stored 8 _ _ (omega arith))
