-- A piece is entered and its keyword noted where there is room for them. Assumes nothing.
use Rattle.survey.specs.Turns.{entry_for}
use Rattle.survey.proofs.Onward.{keyword_full, keyword_stored}
use Rattle.survey.proofs.turns.keyword.Goals as goal

pub returns-then-p-ge-KEYWORDS : goal.returns-then-p-ge-KEYWORDS
returns-then-p-ge-KEYWORDS c =
    let a = c.args in
    keyword_full a.book.now a.t.now a.words.now a.progress a.word a.next c.if-p-ge-KEYWORDS.true c.moved.ensures

pub put_piece-requires : goal.put_piece-requires
put_piece-requires c = (c.requires, c.if-p-ge-KEYWORDS.false)

pub worded-requires : goal.worded-requires
worded-requires c = c.if-p-ge-KEYWORDS.false

pub returns : goal.returns
unfolding entry_for
returns c =
    let a = c.args in
    keyword_stored a.book.now a.t.now a.words.now a.progress a.word a.next c.if-p-ge-KEYWORDS.false
    c.put_piece.ensures c.worded.ensures
    (rw (c.ends_of.ensures, c.gap_at.ensures, c.delay_of.ensures))
