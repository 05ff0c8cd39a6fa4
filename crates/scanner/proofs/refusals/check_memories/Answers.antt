-- The first test that fails is the refusal.
-- Assumes nothing.
use mathlib.Core.Path.{sym, ◌∙◌}
use Rattle.scanner.specs.Exact.{MemoriesChecked}
use Rattle.scanner.proofs.refusals.check_memories.Goals as goal

pub returns-then-too_small : goal.returns-then-too_small
unfolding MemoriesChecked
returns-then-too_small c = sym c.too_small.ensures ∙ c.if-too_small.true

pub returns-then-not-passes : goal.returns-then-not-passes
unfolding MemoriesChecked
returns-then-not-passes c = (sym c.too_small.ensures ∙ c.if-too_small.false, sym c.passes.ensures ∙ c.if-not-passes.true)

pub returns : goal.returns
unfolding MemoriesChecked
returns c = (sym c.too_small.ensures ∙ c.if-too_small.false, sym c.passes.ensures ∙ c.if-not-passes.false)
