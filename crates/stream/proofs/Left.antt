-- A call on the bytes of a part from `used` to `size` takes no more than there are. Assumes nothing.
use mathlib.Core.List.{List}
use Prim.Native.Nat.{ℕ, ◌+◌, ◌-◌, ◌≤◌}
use native.Mathlib.Omega.{arith}
use lib.ListN.{length, take, drop, length-take}

pub taken_left : (part : List ℕ) (used size taken : ℕ) → used ≤ size → taken ≤ length (take (size - used) (drop used part)) → used + taken ≤ size
taken_left part used size taken inside took = omega (arith, length-take (size - used) (drop used part))
