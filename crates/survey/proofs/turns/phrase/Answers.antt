-- A phrase is entered where there is room for it. Assumes nothing.
use borrow.Author.Tests.{le-ltb}
use Rattle.counters.proofs.Same.{same_rank}
use Rattle.tables.specs.Layout.{room_for_phrases}
use Rattle.survey.specs.Turns.{phrase_turn}
use Rattle.survey.proofs.Onward.{phrase_stored}
use Rattle.survey.proofs.turns.phrase.Goals as goal

pub returns-then-j-ge-ROOM_FOR_PHRASES : goal.returns-then-j-ge-ROOM_FOR_PHRASES
unfolding phrase_turn
returns-then-j-ge-ROOM_FOR_PHRASES c =
    let a = c.args in
    λ words. rw (le-ltb a.progress.phrases room_for_phrases c.if-j-ge-ROOM_FOR_PHRASES.true, c.moved.ensures)

pub returns : goal.returns
returns c =
    let a = c.args in
    λ words. phrase_stored a.t.now words a.progress a.number a.rights a.next c.if-j-ge-ROOM_FOR_PHRASES.false c.put_phrase.ensures c.named.ensures
    (same_rank c.of-rank.ensures)
