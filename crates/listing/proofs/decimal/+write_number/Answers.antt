-- A number below ten is stored as one digit; of any other the digits of a tenth are written, and the last digit is stored behind them.
-- The number falls from call to call. Assumes nothing.
use native.Mathlib.Omega.{arith}
use Prim.Native.Nat.{◌≤◌}
use Rattle.lent.specs.Numbers.{with_bytes}
use Rattle.listing.proofs.Digits.{digits_small, length_small, length_big, last_digit}
use Rattle.listing.proofs.decimal.+write_number.Goals as goal

pub bounds-out-at : goal.bounds-out-at
bounds-out-at t c = omega (arith, length_small c.args.n (omega arith))

pub returns-then-n-lt-TEN-clause-value : goal.returns-then-n-lt-TEN-clause-value
returns-then-n-lt-TEN-clause-value t c = omega (arith, length_small c.args.n (omega arith))

pub returns-then-n-lt-TEN-clause-out_after : goal.returns-then-n-lt-TEN-clause-out_after
unfolding with_bytes
returns-then-n-lt-TEN-clause-out_after t c = rw (digits_small c.args.n (omega arith))

pub write_number-last-requires : goal.write_number-last-requires
write_number-last-requires t c = (omega arith, omega (arith, length_big c.args.n (omega arith)))

pub bounds-out-last : goal.bounds-out-last
bounds-out-last t c = omega (arith, length_big c.args.n (omega arith))

pub overflow_add-result-2 : goal.overflow_add-result-2
overflow_add-result-2 t c = omega (arith, length_big c.args.n (omega arith))

pub returns-clause-value : goal.returns-clause-value
returns-clause-value t c = omega (arith, length_big c.args.n (omega arith))

pub returns-clause-out_after : goal.returns-clause-out_after
returns-clause-out_after t c =
    let a = c.args in
    let h : 10 ≤ a.n = omega arith in
    let written = c.write_number-last.ensures in
    last_digit a.out.now a.at a.n h written.value written.out_after
