-- The closing place is one number of 8 bytes, at the place of the piece.
-- Assumes nothing.
use Rattle.window.proofs.Opening.{closing_put}
use Rattle.window.proofs.opens.put_window.Goals as goal

pub returns : goal.returns
returns c = closing_put _ _ _ _ c.bytes.ensures c.put8.ensures
