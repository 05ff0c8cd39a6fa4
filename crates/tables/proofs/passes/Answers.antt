-- Each return is where the test stops, or where the counts decide.
-- Assumes nothing.
use mathlib.Core.Path.{sym, ◌∙◌}
use Rattle.tables.specs.Layout.{tables_tag}
use Rattle.tables.proofs.Passing.{pass_short, pass_tag, pass_counts}
use Rattle.tables.proofs.passes.Goals as goal

pub returns-then-t-lt-SIZE : goal.returns-then-t-lt-SIZE
returns-then-t-lt-SIZE c = sym (pass_short c.args.t.now c.if-t-lt-SIZE.true)

pub returns-then-get8-ne-TABLES_TAG : goal.returns-then-get8-ne-TABLES_TAG
unfolding tables_tag
returns-then-get8-ne-TABLES_TAG c = sym (pass_tag c.args.t.now c.if-t-lt-SIZE.false (λ e. c.if-get8-ne-TABLES_TAG.true (c.get8.ensures ∙ e)))

pub returns : goal.returns
unfolding tables_tag
returns c =
    let t = c.args.t.now in
    rw (← c.of.ensures) c.counts_pass.ensures ∙ sym (pass_counts t c.if-t-lt-SIZE.false (sym c.get8.ensures ∙ c.if-get8-ne-TABLES_TAG.false))
