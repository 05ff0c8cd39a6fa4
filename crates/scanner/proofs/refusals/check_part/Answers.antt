-- Each return is one case of the definition, in the order of the refusals.
-- Assumes nothing.
use mathlib.Core.Path.{sym, ap, subst, ◌∙◌}
use Prim.Native.Nat.{ℕ, ◌/◌, ◌≤◌}
use native.Mathlib.Omega.{arith}
use lib.ListN.{length}
use Rattle.tables.specs.Reads.{phrase_count_in}
use Rattle.scanner.specs.Exact.{MemoriesChecked}
use Rattle.scanner.proofs.Passing.{whole, passed}
use Rattle.scanner.proofs.Cases.{passed_on, feed_checked, feed_not_running, feed_no_room, feed_too_long, feed_taking}
use Rattle.scanner.proofs.refusals.check_part.Goals as goal

pub returns-in_err-check_memories-clause-err : goal.returns-in_err-check_memories-clause-err
returns-in_err-check_memories-clause-err c =
    let a = c.args in
    rw (passed_on _ _ c.from_residual.ensures.1)
    (feed_checked a.t.now a.m.now a.part.now a.room.now _ c.in_err-check_memories.ensures)

pub returns-then-not-running_passes-clause-err : goal.returns-then-not-running_passes-clause-err
unfolding MemoriesChecked
returns-then-not-running_passes-clause-err c =
    let a = c.args in
    let pass = c.in_ok-check_memories.ensures in
    feed_not_running a.t.now a.m.now a.part.now a.room.now pass.0 pass.1 (sym c.running_passes.ensures ∙ c.if-not-running_passes.true)

pub of-tables-requires : goal.of-tables-requires
unfolding MemoriesChecked
of-tables-requires c = (whole _ _ c.in_ok-check_memories.ensures.0).0

pub returns-then-room-phrase_count-clause-err : goal.returns-then-room-phrase_count-clause-err
unfolding MemoriesChecked
returns-then-room-phrase_count-clause-err c =
    let a = c.args in
    let pass = c.in_ok-check_memories.ensures in
    let running = sym c.running_passes.ensures ∙ c.if-not-running_passes.false in
    let count = c.phrase_count.ensures.0 ∙ ap phrase_count_in c.of-tables.ensures in
    feed_no_room a.t.now a.m.now a.part.now a.room.now pass.0 pass.1 running (omega (arith, count))

pub place_of-requires : goal.place_of-requires
unfolding MemoriesChecked
place_of-requires c = (whole _ _ c.in_ok-check_memories.ensures.0).1

pub overflow_sub-bytes : goal.overflow_sub-bytes
overflow_sub-bytes c =
    let running = sym c.running_passes.ensures ∙ c.if-not-running_passes.false in
    omega (arith, (passed _ _ running).place)

pub returns-then-bytes-part-clause-err : goal.returns-then-bytes-part-clause-err
unfolding MemoriesChecked
returns-then-bytes-part-clause-err c =
    let a = c.args in
    let pass = c.in_ok-check_memories.ensures in
    let running = sym c.running_passes.ensures ∙ c.if-not-running_passes.false in
    let roomy = subst (λ (n : ℕ). n ≤ length a.room.now / 2) (c.phrase_count.ensures.0 ∙ ap phrase_count_in c.of-tables.ensures) c.if-room-phrase_count.false in
    feed_too_long a.t.now a.m.now a.part.now a.room.now pass.0 pass.1 running roomy (omega arith)

pub returns-clause-ok : goal.returns-clause-ok
unfolding MemoriesChecked
returns-clause-ok c =
    let a = c.args in
    let pass = c.in_ok-check_memories.ensures in
    let running = sym c.running_passes.ensures ∙ c.if-not-running_passes.false in
    let roomy = subst (λ (n : ℕ). n ≤ length a.room.now / 2) (c.phrase_count.ensures.0 ∙ ap phrase_count_in c.of-tables.ensures) c.if-room-phrase_count.false in
    feed_taking a.t.now a.m.now a.part.now a.room.now pass.0 pass.1 running roomy (omega arith)
