-- A mark is written as a number and any other byte is stored, as the definition says. Assumes nothing.
use mathlib.Core.Path.{ap}
use native.Mathlib.Omega.{arith}
use borrow.Author.Rules.{rules}
use lib.ListN.{length}
use Rattle.lent.specs.Numbers.{with_bytes}
use Rattle.listing.proofs.Filling.{shown_number, shown_byte}
use Rattle.listing.proofs.forms.show.Goals as goal

pub write_number-requires : goal.write_number-requires
write_number-requires c =
    let a = c.args in
    rw (shown_number a.byte a.number c.if-byte-eq-MARK.true) at c.requires

pub returns-then-byte-eq-MARK : goal.returns-then-byte-eq-MARK
returns-then-byte-eq-MARK c =
    let a = c.args in
    let made = shown_number a.byte a.number c.if-byte-eq-MARK.true in
    record { value = rw made c.write_number.ensures.value; line_after = rw made c.write_number.ensures.out_after }

pub bounds-line-at : goal.bounds-line-at
bounds-line-at c =
    let a = c.args in
    omega (arith, ap length (shown_byte a.byte a.number c.if-byte-eq-MARK.false))

pub returns : goal.returns
unfolding with_bytes
returns c =
    let a = c.args in
    rw (shown_byte a.byte a.number c.if-byte-eq-MARK.false) (search rules)
