-- Each refusal has the number that the definition gives it. Assumes nothing.
use mathlib.Core.Path.{sym, ap, ◌∙◌}
use Rattle.scanner.specs.Answers.{feed_number}
use Rattle.desk.proofs.numbers.feed_number.Goals as goal

pub returns-in-Memory : goal.returns-in-Memory
unfolding feed_number
returns-in-Memory c = c.memory_number.ensures ∙ ap feed_number (sym c.in-Memory.is)

pub returns-in-NoRoom : goal.returns-in-NoRoom
unfolding feed_number
returns-in-NoRoom c = ap feed_number (sym c.in-NoRoom.is)

pub returns-in-TooLong : goal.returns-in-TooLong
unfolding feed_number
returns-in-TooLong c = ap feed_number (sym c.in-TooLong.is)
