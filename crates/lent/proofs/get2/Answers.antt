-- Each byte counts 256 times as much as the one before. Assumes nothing.
use native.Mathlib.Omega.{arith}
use Rattle.lent.specs.Numbers.{number_at}
use Rattle.lent.proofs.get2.Goals as goal

pub returns : goal.returns
unfolding number_at
returns c = omega (arith, c.from_le_bytes.ensures)
