-- A build that is done has its number of document 01. Assumes nothing.
use mathlib.Core.Path.{sym, ap}
use Rattle.builder.specs.Answers.{Built, said_by}
use Rattle.builder.proofs.answers.number.Goals as goal

pub returns-in-Ok : goal.returns-in-Ok
unfolding said_by
returns-in-Ok c = ap (λ (b : Built). (said_by b).number) (sym c.in-Ok.is)
