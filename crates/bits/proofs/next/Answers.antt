-- What is left from bit j on ends in as many zeros as there are bits to pass: the returns are the cases of the laws on these zeros.
-- Assumes nothing.
use native.Mathlib.Omega.{arith}
use lib.Count.{trailing_le}
use Prim.Native.Nat.{◌/◌, ◌^◌}
use Rattle.bits.specs.Bits.{bit_of}
use Rattle.bits.proofs.Lowest.{first_found, first_none, first_end}
use Rattle.bits.proofs.next.Goals as goal

pub returns-then-j-ge-BITS : goal.returns-then-j-ge-BITS
returns-then-j-ge-BITS c = first_end (bit_of c.args.x) 128 c.args.j (omega arith) (omega arith)

pub overflow_cast-zeros : goal.overflow_cast-zeros
overflow_cast-zeros c = omega (arith, trailing_le 128 (c.args.x / 2 ^ c.args.j))

pub returns-then-j-zeros : goal.returns-then-j-zeros
returns-then-j-zeros c = first_none 128 c.args.x c.args.j (omega arith) (omega arith)

pub returns : goal.returns
returns c = (first_found 128 c.args.x c.args.j (omega arith) (omega arith), omega arith)
