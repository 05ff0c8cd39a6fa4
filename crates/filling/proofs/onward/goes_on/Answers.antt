-- `goes_on` meets its contract: a keyword that is no longer than the state does not go on, and for a longer one the bytes decide.
-- Assumes nothing.
use mathlib.Core.Path.{sym, ◌∙◌}
use borrow.Author.Tests.{le-ltb}
use Rattle.filling.proofs.Noting.{goes_on_short, goes_on_starts}
use Rattle.filling.proofs.onward.goes_on.Goals as goal

pub returns-then-state-keyword : goal.returns-then-state-keyword
returns-then-state-keyword c =
    let a = c.args in
    rw (c.bytes.ensures, c.bytes-then-state-keyword.ensures) at c.starts_with.ensures.value
    ∙ sym (goes_on_starts a.book.now a.state a.keyword c.if-state-keyword.true c.requires.state_inside)

pub returns-else-state-keyword : goal.returns-else-state-keyword
returns-else-state-keyword c =
    let a = c.args in
    le-ltb a.state.count a.keyword.count c.if-state-keyword.false ∙ sym (goes_on_short a.book.now a.state a.keyword c.if-state-keyword.false)
