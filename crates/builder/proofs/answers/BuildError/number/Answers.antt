-- Each refusal has its number of document 01. Assumes nothing.
use mathlib.Core.Path.{sym, ap, ◌∙◌}
use Rattle.std.specs.Prelude.{Err}
use Rattle.builder.specs.declared.answers.BuildError.{BuildError}
use Rattle.builder.specs.Answers.{said_by}
use Rattle.builder.proofs.answers.BuildError.number.Goals as goal

pub returns-in-TooSmall : goal.returns-in-TooSmall
unfolding said_by
returns-in-TooSmall c = ap (λ (b : BuildError). (said_by (Err b)).number) (sym c.in-TooSmall.is)

pub returns-in-Refused : goal.returns-in-Refused
unfolding said_by
returns-in-Refused c = c.from.ensures ∙ ap (λ (b : BuildError). (said_by (Err b)).number) (sym c.in-Refused.is)
