-- One memory is below its size, or the other decides.
-- Assumes nothing.
use mathlib.Core.Path.{sym, ap, ◌∙◌}
use native.Mathlib.Omega.{arith}
use lib.Dec.{ltb}
use lib.ListN.{length}
use borrow.Author.Tests.{lt-ltb}
use Rattle.scanner.proofs.Passing.{small_tables, small_memory}
use Rattle.scanner.proofs.refusals.too_small.Goals as goal

pub returns-then-t-size : goal.returns-then-t-size
returns-then-t-size c =
    let a = c.args in
    lt-ltb (length a.t.now) c.size.result c.if-t-size.true ∙ sym (small_tables a.t.now a.m.now (omega arith))

pub returns-else-t-size : goal.returns-else-t-size
returns-else-t-size c =
    let a = c.args in
    ap (ltb (length a.m.now)) c.size-else-t-size.ensures ∙ sym (small_memory a.t.now a.m.now (omega arith))
