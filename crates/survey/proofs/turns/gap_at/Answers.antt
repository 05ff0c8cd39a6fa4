-- A gap is bounded or open, and nothing else is one. Assumes nothing.
use mathlib.Core.Path.{ap, ◌∙◌}
use Rattle.survey.specs.Turns.{found_gap, gap_at}
use Rattle.survey.proofs.Found.{a_gap, no_gap}
use Rattle.survey.proofs.turns.gap_at.Goals as goal

pub returns-in_default : goal.returns-in_default
unfolding gap_at
returns-in_default c = ap found_gap c.in_default.ensures.exact

pub returns-in-Bounded : goal.returns-in-Bounded
unfolding gap_at
returns-in-Bounded c = a_gap c.in-Ok.found.says c.in-Bounded.is ∙ ap found_gap c.in-Ok.ensures.exact

pub returns-in_default-matches : goal.returns-in_default-matches
unfolding gap_at
returns-in_default-matches c =
    let no = c.in_default-matches in
    no_gap c.in-Ok.found.says no.not-Bounded no.not-Open ∙ ap found_gap c.in-Ok.ensures.exact
