-- The bit that is stored lies in the width, so the shift loses nothing; a rank past the last gets none.
-- Assumes nothing.
use mathlib.Core.Path.{sym, ap, ◌∙◌}
use Prim.Native.Nat.{ℕ}
use native.Mathlib.Omega.{arith}
use Rattle.bits.proofs.Bits.{set_stored}
use Rattle.bits.specs.Bits.{set_bit}
use Rattle.marks.proofs.Marked.{with_bit, with_none}
use Rattle.marks.proofs.Marks.with.Goals as goal

pub returns-then-j-lt-RANKS : goal.returns-then-j-lt-RANKS
returns-then-j-lt-RANKS c =
    let self = c.args.self in
    let stored = set_stored 128 self.bits c.index-j.result (omega arith) ∙ ap (set_bit self.bits) c.index-j.ensures.0 in
    ap (λ (n : ℕ). record { bits = n }) stored ∙ sym (with_bit self c.args.rank.0 (omega arith))

pub returns : goal.returns
returns c = sym (with_none c.args.self c.args.rank.0 (omega arith))
