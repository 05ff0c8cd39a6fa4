-- What is left is taken from what was brought, and never below nothing.
-- Assumes nothing.
use native.Mathlib.Omega.{arith}
use Rattle.feeding.specs.Taken.{steps_of}
use Rattle.feeding.proofs.steps_since.Goals as goal

pub returns : goal.returns
unfolding steps_of
returns c = omega arith
