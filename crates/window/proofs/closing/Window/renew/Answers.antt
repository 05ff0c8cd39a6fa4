-- The record is its closing place, so it is the new one where that is.
-- Assumes nothing.
use mathlib.Core.Path.{refl}
use Rattle.window.proofs.Opening.{renewed_is}
use Rattle.window.proofs.closing.Window.renew.Goals as goal

pub returns : goal.returns
returns c = renewed_is _ _ _ refl
