-- Each answer has the numbers that the definition gives it. Assumes nothing.
use mathlib.Core.Path.{sym, ap, ◌∙◌}
use Rattle.scanner.specs.Answers.{refusal, said}
use Rattle.desk.specs.Answers.{fed_said}
use Rattle.desk.proofs.numbers.TsuvrankheFedFromResultTookFeedError.from.Goals as goal

pub returns-in-Ok : goal.returns-in-Ok
unfolding said fed_said
returns-in-Ok c = ap said (sym c.in-Ok.is)

pub returns-in-Err : goal.returns-in-Err
unfolding said fed_said
returns-in-Err c = ap refusal c.feed_number.ensures ∙ ap said (sym c.in-Err.is)
