-- The loop keeps: what the keywords have in common is the bytes passed and what their rests have in common. Assumes nothing.
use mathlib.Core.Path.{refl}
use mathlib.Core.List.{[], ◌∷◌}
use native.Mathlib.Omega.{arith}
use lib.ListN.{length-append}
use Rattle.std.proofs.Common.{None}
use Rattle.std.proofs.lemmas.Slice.Zip.{either_empty_from_Zip}
use Rattle.records.proofs.Common.{common_more, common_differ, common_ends}
use Rattle.records.proofs.prefixes.common.Goals as goal

pub returns-then-byte-other_byte : goal.returns-then-byte-other_byte
returns-then-byte-other_byte c =
    let turn = c.in-Some.ensures.steps in
    omega (arith, c.loop-byte.invariant.1, common_differ turn.0 turn.1 c.if-byte-other_byte.true)

pub loop-byte-preserved : goal.loop-byte-preserved
loop-byte-preserved c =
    let turn = c.in-Some.ensures.steps in
    (omega (arith, length-append c.loop-byte.yielded ((c.in-Some.byte, c.in-Some.other_byte) ∷ [])), omega (arith, c.loop-byte.invariant.1, common_more turn.0 turn.1 c.if-byte-other_byte.false))

pub returns : goal.returns
returns c = omega (arith, c.loop-byte.invariant.1, common_ends (either_empty_from_Zip c.loop-byte.byte-iterator c.next.new.self None refl c.in-None.ensures.steps))
