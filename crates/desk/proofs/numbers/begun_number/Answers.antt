-- Each answer has the number that the definition gives it. Assumes nothing.
use mathlib.Core.Path.{sym, ap, ◌∙◌}
use Rattle.scanner.specs.Answers.{begun_number}
use Rattle.desk.proofs.numbers.begun_number.Goals as goal

pub returns-in-Ok : goal.returns-in-Ok
unfolding begun_number
returns-in-Ok c = ap begun_number (sym c.in-Ok.is)

pub returns-in-Err : goal.returns-in-Err
unfolding begun_number
returns-in-Err c = c.memory_number.ensures ∙ ap begun_number (sym c.in-Err.is)
