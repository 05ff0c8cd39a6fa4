-- `onward_from` meets its contract: before each turn the keywords below q are noted.
-- Assumes nothing.
use mathlib.Core.Path.{◌≡◌, refl, ap, ◌∙◌}
use native.Mathlib.Omega.{arith}
use lib.ListN.{length}
use Rattle.filling.specs.Onward.{onward_from}
use Rattle.filling.proofs.Noting.{onward_further}
use Rattle.filling.proofs.onward.onward_from.Goals as goal

pub loop-q-init : goal.loop-q-init
unfolding onward_from
loop-q-init c = refl

pub note_keyword-requires : goal.note_keyword-requires
note_keyword-requires c =
    record {
      q_lt_most_pieces = omega (arith, c.args.keywords.inside.few);
      state_inside = c.requires;
      keyword_inside = c.args.keywords.inside.ends c.loop-q.q (omega arith);
    }

pub loop-q-preserved : goal.loop-q-preserved
loop-q-preserved c =
    let a = c.args in
    onward_further a.keywords.book.now a.keywords.words.now a.state c.loop-q.q c.loop-q.onward _ c.loop-q.invariant c.note_keyword.ensures

pub returns : goal.returns
returns c =
    let a = c.args in
    let all : c.loop-q.q ≡ length a.keywords.words.now = omega arith in
    c.loop-q.invariant ∙ ap (onward_from a.keywords.book.now a.keywords.words.now a.state) all
