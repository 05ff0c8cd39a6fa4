-- The number widened and the offset are the two that are said. Assumes nothing.
use mathlib.Core.Path.{ap₂, ◌∙◌}
use Rattle.builder.specs.Answers.{said}
use Rattle.desk.specs.Answers.{built_said}
use Rattle.desk.proofs.numbers.TsuvrankheBuiltFromResultUsizeBuildError.from.Goals as goal

pub returns : goal.returns
unfolding built_said
returns c = ap₂ said (c.from.ensures ∙ c.number-number.ensures) c.offset-offset.ensures
