-- Each return is one case of the definition.
-- Assumes nothing.
use mathlib.Core.Path.{sym}
use native.Mathlib.Omega.{arith}
use Rattle.feeding.proofs.Ahead.{quarter_few, quarter_tight, quarter_longest, quarter_fourth}
use Rattle.feeding.proofs.blocks.quarter_of.Goals as goal

pub returns-then-remaining-lt-SHORTEST : goal.returns-then-remaining-lt-SHORTEST
returns-then-remaining-lt-SHORTEST c = sym (quarter_few _ _ _ (omega arith))

pub returns-then-free-phrases : goal.returns-then-free-phrases
returns-then-free-phrases c = sym (quarter_tight _ _ _ (omega arith))

pub returns-then-remaining-gt-STATES : goal.returns-then-remaining-gt-STATES
returns-then-remaining-gt-STATES c = sym (quarter_longest _ _ _ (omega arith) (omega arith) (omega arith))

pub returns : goal.returns
returns c = sym (quarter_fourth _ _ _ (omega arith) (omega arith) (omega arith))
