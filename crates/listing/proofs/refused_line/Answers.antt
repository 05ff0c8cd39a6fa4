-- The form of a refused book's line, filled with its two numbers, is that line. Assumes nothing.
use native.Mathlib.Omega.{arith}
use Rattle.listing.specs.Forms.{filled}
use Rattle.listing.specs.Lines.{refused_line}
use Rattle.listing.proofs.Lengths.{refused_line_most}
use Rattle.listing.proofs.refused_line.Goals as goal

pub returns : goal.returns
unfolding filled refused_line
returns c = c.put_line.ensures

pub put_line-requires : goal.put_line-requires
unfolding filled refused_line
put_line-requires c = refused_line_most _ _ (omega arith) (omega arith)
