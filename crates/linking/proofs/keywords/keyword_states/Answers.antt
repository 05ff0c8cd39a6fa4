-- `keyword_states` meets its contract: before each turn the states of the keywords below are found.
-- Assumes nothing.
use mathlib.Core.Path.{◌≡◌, refl, ap, ◌∙◌}
use native.Mathlib.Omega.{arith}
use lib.ListN.{length}
use Rattle.filling.specs.Keywords.{keyword_in}
use Rattle.linking.specs.Keywords.{keyword_states}
use Rattle.linking.proofs.Words.{keywords_below, keyword_further}
use Rattle.linking.proofs.keywords.keyword_states.Goals as goal

pub loop-q-init : goal.loop-q-init
unfolding keyword_states
loop-q-init c = refl

pub bytes-requires : goal.bytes-requires
bytes-requires c = c.args.keywords.inside.ends c.loop-q.q (omega arith)

pub loop-q-preserved : goal.loop-q-preserved
unfolding keyword_in
loop-q-preserved c =
    let a = c.args in
    let state = c.state_of_keyword-state in
    keyword_further a.t.now a.states a.keywords.book.now a.keywords.words.now c.loop-q.q c.loop-q.found _ c.bytes.result.now
    state.result.0 c.number.result c.loop-q.invariant c.bytes.ensures state.ensures.0 c.number.ensures refl

pub returns : goal.returns
returns c =
    let a = c.args in
    let all : c.loop-q.q ≡ length a.keywords.words.now = omega arith in
    let found = c.loop-q.invariant ∙ ap (keyword_states a.t.now a.states a.keywords.book.now a.keywords.words.now) all in
    record {
      value = found;
      by_index = λ q. rw found (keywords_below a.t.now a.states (omega arith) a.keywords.book.now a.keywords.words.now (length a.keywords.words.now) q);
    }
