-- The form without a mark is the line itself. Assumes nothing.
use Rattle.listing.specs.Forms.{filled}
use Rattle.listing.specs.Lines.{no_statement}
use Rattle.listing.proofs.Lengths.{no_statement_most}
use Rattle.listing.proofs.no_statement.Goals as goal

pub returns : goal.returns
unfolding filled no_statement
returns c = c.put_line.ensures

pub put_line-requires : goal.put_line-requires
unfolding filled no_statement
put_line-requires c = no_statement_most
