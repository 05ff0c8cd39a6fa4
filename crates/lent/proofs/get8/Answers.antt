-- Each byte counts 256 times as much as the one before. Assumes nothing.
use mathlib.Core.Path.{◌≡◌, ap}
use Prim.Native.Nat.{ℕ, ◌+◌}
use native.Mathlib.Omega.{arith}
use lib.ListN.{get_or}
use Rattle.lent.specs.Numbers.{number_at}
use Rattle.lent.proofs.get8.Goals as goal

pub returns : goal.returns
unfolding number_at
returns c =
    let at = c.args.at in
    let same : (j k : ℕ) → j ≡ k → get_or c.args.s.now j 0 ≡ get_or c.args.s.now k 0 = λ j k e. ap (λ (l : ℕ). get_or c.args.s.now l 0) e in
    omega (arith, c.from_le_bytes.ensures, same (at + 1 + 1) (at + 2) (omega arith), same (at + 1 + 1 + 1) (at + 3) (omega arith), same (at + 1 + 1 + 1 + 1) (at + 4) (omega arith), same (at + 1 + 1 + 1 + 1 + 1) (at + 5) (omega arith), same (at + 1 + 1 + 1 + 1 + 1 + 1) (at + 6) (omega arith), same (at + 1 + 1 + 1 + 1 + 1 + 1 + 1) (at + 7) (omega arith))
