-- The window is read, renewed and put back: its closing place is all that changes.
-- Assumes nothing.
use Rattle.window.proofs.Opening.{renewed_opens}
use Rattle.window.proofs.opens.open_window.Goals as goal

pub returns : goal.returns
returns c =
    let a = c.args in
    renewed_opens a.t.now a.place.0 a.m.now _ a.piece _ _ _ _
    c.window_of-window.ensures c.span.ensures c.closing_place-closes.ensures c.renew.ensures c.put_window.ensures
