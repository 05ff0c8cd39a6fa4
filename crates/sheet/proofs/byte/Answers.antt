-- A byte is written where it fits, and the next place is one further; otherwise nothing changes.
-- Assumes nothing.
use native.Mathlib.Omega.{arith}
use Rattle.sheet.proofs.Laws.{byte_fits, byte_left}
use Rattle.sheet.proofs.byte.Goals as goal

pub returns-then-at-book : goal.returns-then-at-book
returns-then-at-book c = byte_fits _ _ _ (omega arith)

pub returns : goal.returns
returns c = byte_left _ _ _ (omega arith)
