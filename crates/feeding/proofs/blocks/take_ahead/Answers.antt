-- Nothing is taken where the part is short or the columns do not fit, and else all blocks are: each return is one case of the definition.
-- Assumes nothing.
use mathlib.Core.Path.{sym, ◌∙◌}
use native.Mathlib.Omega.{arith}
use Rattle.feeding.proofs.Upto.{kept_start}
use Rattle.feeding.proofs.Ahead.{ahead_short, ahead_unfit, ahead_blocks}
use Rattle.feeding.proofs.blocks.take_ahead.Goals as goal

pub returns-then-part-lt-SHORTEST : goal.returns-then-part-lt-SHORTEST
returns-then-part-lt-SHORTEST c = record { all = sym (ahead_short _ _ _ _ (omega arith)); kept = kept_start c.requires }

pub columns_fit-requires : goal.columns_fit-requires
columns_fit-requires c =
    let ready = c.requires.ready in
    (ready.states, ready.few_dense)

pub returns-then-not-columns_fit : goal.returns-then-not-columns_fit
returns-then-not-columns_fit c =
    let fit = c.columns_fit in
    record {
      all = sym (ahead_unfit _ _ _ _ (omega arith) (sym fit.ensures ∙ c.if-not-columns_fit.true));
      kept = kept_start c.requires;
    }

pub take_blocks-requires : goal.take_blocks-requires
take_blocks-requires c =
    let fit = c.columns_fit in
    record { on = c.requires; fit = sym fit.ensures ∙ c.if-not-columns_fit.false }

pub returns : goal.returns
returns c =
    let fit = c.columns_fit in
    let took = c.take_blocks.ensures in
    record {
      all = took.all ∙ sym (ahead_blocks _ _ _ _ (omega arith) (sym fit.ensures ∙ c.if-not-columns_fit.false));
      kept = took.kept;
    }
