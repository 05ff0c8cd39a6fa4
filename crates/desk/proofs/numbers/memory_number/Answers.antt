-- Each refusal has the number that the definition gives it. Assumes nothing.
use mathlib.Core.Path.{sym, ap}
use Rattle.scanner.specs.Answers.{memory_number}
use Rattle.desk.proofs.numbers.memory_number.Goals as goal

pub returns-in-TooSmall : goal.returns-in-TooSmall
unfolding memory_number
returns-in-TooSmall c = ap memory_number (sym c.in-TooSmall.is)

pub returns-in-NotPassed : goal.returns-in-NotPassed
unfolding memory_number
returns-in-NotPassed c = ap memory_number (sym c.in-NotPassed.is)
