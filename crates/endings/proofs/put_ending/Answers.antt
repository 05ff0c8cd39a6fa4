-- The two stores are those of the definition, at the index of the state.
-- Assumes nothing.
use mathlib.Core.Path.{ap}
use Prim.Native.Nat.{ℕ}
use Rattle.endings.specs.Filled.{with_ending}
use Rattle.endings.proofs.put_ending.Goals as goal

pub returns : goal.returns
unfolding with_ending
returns c =
    let a = c.args in
    ap (λ (i : ℕ). with_ending a.t.now i a.out a.info) c.index-i.ensures.0
