-- In each turn one byte of the form is shown, and what the rest of the form makes is left to write. Assumes nothing.
use mathlib.Core.Path.{refl}
use native.Mathlib.Omega.{arith}
use Rattle.listing.proofs.Filling.{turn_shown, shown_room, all_shown}
use Rattle.listing.proofs.forms.fill.Goals as goal

pub loop-byte-init : goal.loop-byte-init
loop-byte-init c = record { within = omega arith; next = omega arith; size = refl; ends = omega arith; makes = refl }

pub show-end-requires : goal.show-end-requires
show-end-requires c =
    let turn = c.loop-byte in
    rw c.number_at.ensures (omega (arith, shown_room turn.invariant (omega arith)))

pub loop-byte-preserved : goal.loop-byte-preserved
loop-byte-preserved c =
    let turn = c.loop-byte in
    let shown = c.show-end.ensures in
    let number = c.number_at.ensures in
    turn_shown turn.invariant (omega arith) number shown.value shown.line_after c.next_number-k.ensures

pub returns : goal.returns
returns c =
    let shown = all_shown c.loop-byte.invariant (omega arith) in
    record { value = shown.0; line_after = shown.1 }
