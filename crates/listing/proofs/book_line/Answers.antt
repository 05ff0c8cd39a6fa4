-- The form of a book line, filled with its three numbers, is that line. Assumes nothing.
use native.Mathlib.Omega.{arith}
use Rattle.listing.specs.Forms.{filled}
use Rattle.listing.specs.Lines.{book_line}
use Rattle.listing.proofs.Lengths.{book_line_most}
use Rattle.listing.proofs.book_line.Goals as goal

pub returns : goal.returns
unfolding filled book_line
returns c = c.put_line.ensures

pub put_line-requires : goal.put_line-requires
unfolding filled book_line
put_line-requires c = book_line_most _ _ _ (omega arith) (omega arith) (omega arith)
