-- The bytes of the part are all zero, and are put back. Assumes nothing.
use Prim.Native.Nat.{◌+◌}
use native.Mathlib.Omega.{arith}
use borrow.Rule.Slice.PartMut.{mid_len}
use Rattle.lent.proofs.Parts.{zeros_put}
use Rattle.lent.proofs.clear.Goals as goal

pub returns : goal.returns
returns c =
    let a = c.args in
    let long = mid_len a.at (a.at + a.count) a.s.now c.requires in
    zeros_put a.count a.s.now a.at (omega arith) (omega arith) c.requires (c.fill.ensures.after (λ y e. e))
