-- The search goes from word to word; a bit that is found in one is that of a piece.
-- Assumes nothing.
use native.Mathlib.Omega.{arith}
use Rattle.bits.proofs.Lowest.{first_within, first_without}
use Rattle.window.proofs.Words.{searching_start, searching_found, searching_on, searching_end}
use Rattle.window.proofs.opens.next_waiting.Goals as goal

pub loop-word-init : goal.loop-word-init
loop-word-init c =
    let a = c.args in
    searching_start a.m.now (λ k. omega (arith, c.type_inv.m k)) a.slot a.p (omega arith)

pub returns-in-Some : goal.returns-in-Some
returns-in-Some c =
    let a = c.args in
    let found = first_within 64 128 c.get8-bits.result c.loop-word.j (omega arith) (omega arith) (omega arith) c.in-Some.next c.in-Some.ensures.0 c.in-Some.ensures.1 in (
      searching_found a.m.now (λ k. omega (arith, c.type_inv.m k)) a.slot a.p c.loop-word.word c.loop-word.j c.loop-word.invariant
          c.in-Some.next (rw c.get8-bits.ensures at found.0) (omega arith) found.1,
      omega (arith, found.1),
    )

pub loop-word-preserved : goal.loop-word-preserved
loop-word-preserved c =
    let a = c.args in
    let none = first_without 64 128 c.get8-bits.result c.loop-word.j (omega arith) (omega arith) (omega arith) c.in_default.ensures in
    searching_on a.m.now (λ k. omega (arith, c.type_inv.m k)) a.slot a.p c.loop-word.word c.loop-word.j c.loop-word.invariant
    64 (rw c.get8-bits.ensures at none) (omega arith) (omega arith)

pub returns : goal.returns
returns c =
    let a = c.args in
    searching_end a.m.now (λ k. omega (arith, c.type_inv.m k)) a.slot a.p c.loop-word.word c.loop-word.j c.loop-word.invariant (omega arith)
