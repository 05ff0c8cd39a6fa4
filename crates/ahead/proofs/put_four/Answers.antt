-- After so many turns so many numbers stand there.
-- Assumes nothing.
use mathlib.Core.Path.{refl, ◌∙◌}
use Prim.Native.Nat.{◌+◌}
use native.Mathlib.Numerals.{add-one}
use lib.ListN.{length-set}
use Rattle.ahead.specs.Cursors.{with_first}
use Rattle.ahead.proofs.put_four.Goals as goal

pub loop-k-init : goal.loop-k-init
unfolding with_first
loop-k-init c = (refl, refl)

pub loop-k-preserved : goal.loop-k-preserved
unfolding with_first
loop-k-preserved c =
    let a = c.args in
    let k = c.loop-k.k in (
      rw (add-one k, ← c.loop-k.invariant.0),
      length-set c.loop-k.ahead (a.at + k) _ ∙ c.loop-k.invariant.1,
    )
