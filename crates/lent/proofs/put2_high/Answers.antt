-- The bytes of the number, the higher one first, are put back in place of the part. Assumes nothing.
use mathlib.Core.Path.{◌∙◌}
use native.Mathlib.Omega.{arith}
use Rattle.lent.specs.Numbers.{high_bytes, with_high_number}
use Rattle.lent.proofs.Parts.{part_put}
use Rattle.lent.proofs.put2_high.Goals as goal

pub returns : goal.returns
unfolding high_bytes with_high_number
returns c = part_put c.args.s.now (high_bytes 2 c.args.v) c.args.at (omega arith) c.requires (c.copy_from_slice.ensures.after ∙ c.to_be_bytes.ensures)
