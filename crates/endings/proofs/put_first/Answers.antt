-- The link is read before the state gets its new first piece.
-- Assumes nothing.
use mathlib.Core.Path.{◌∙◌}
use Rattle.endings.proofs.Turns.{first_read}
use Rattle.endings.proofs.put_first.Goals as goal

pub returns : goal.returns
returns c =
    let a = c.args in
    c.put_ending.ensures ∙ first_read a.t.now a.state.0 a.p (rw c.of.ensures at c.first_link-next.ensures.0) c.put_link.ensures
