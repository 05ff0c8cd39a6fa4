-- The bytes of the number are put back in place of the part. Assumes nothing.
use mathlib.Core.Path.{◌∙◌}
use native.Mathlib.Omega.{arith}
use Rattle.lent.proofs.Parts.{number_put}
use Rattle.lent.proofs.put2.Goals as goal

pub returns : goal.returns
returns c = number_put 2 c.args.s.now c.args.at c.args.v (omega arith) c.requires (c.copy_from_slice.ensures.after ∙ c.to_le_bytes.ensures)
