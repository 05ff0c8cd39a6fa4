-- A build that is done has its offset of document 01. Assumes nothing.
use mathlib.Core.Path.{sym, ap}
use Rattle.builder.specs.Answers.{Built, said_by}
use Rattle.builder.proofs.answers.offset.Goals as goal

pub returns-in-Ok : goal.returns-in-Ok
unfolding said_by
returns-in-Ok c = ap (λ (b : Built). (said_by b).offset) (sym c.in-Ok.is)
