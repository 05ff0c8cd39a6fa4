-- The opening goes from one waiting piece to the next. The measure is how many pieces are left.
-- Assumes nothing.
use borrow.Author.Rules.{rules}
use Rattle.window.proofs.Opening.{opening_start, opening_next, opening_end}
use Rattle.window.proofs.opens.open_windows.Goals as goal

pub loop-piece-init : goal.loop-piece-init
loop-piece-init c = opening_start

pub loop-piece-preserved : goal.loop-piece-preserved
loop-piece-preserved c = opening_next c.loop-piece.invariant c.in-Some.piece c.in-Some.ensures.0 c.in-Some.ensures.1 _ c.open_window.ensures

pub returns : goal.returns
returns c = opening_end c.loop-piece.invariant (search rules)
