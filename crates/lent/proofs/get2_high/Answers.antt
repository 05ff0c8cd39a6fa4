-- The first byte counts 256 times as much as the second. Assumes nothing.
use native.Mathlib.Omega.{arith}
use Rattle.lent.specs.Numbers.{high_number_at}
use Rattle.lent.proofs.get2_high.Goals as goal

pub returns : goal.returns
unfolding high_number_at
returns c = omega (arith, c.from_be_bytes.ensures)
