-- Each return is one case of the definition, and all that is promised follows from it.
-- Assumes nothing.
use mathlib.Core.Path.{sym, ap, ◌∙◌}
use mathlib.Core.List.{List}
use Prim.Native.Nat.{ℕ}
use Rattle.tables.proofs.Passing.{pass_iff}
use Rattle.tracking.specs.Head.{begun_with}
use Rattle.scanner.specs.Answers.{Begun}
use Rattle.scanner.specs.Exact.{MemoriesChecked, BeginEnd, begun_well}
use Rattle.scanner.proofs.Passing.{whole}
use Rattle.scanner.proofs.Cases.{passed_on, begin_checked, begin_done}
use Rattle.scanner.proofs.Begins.{begin_promised}
use Rattle.scanner.proofs.begin.Goals as goal

pub returns-in_err-check_memories : goal.returns-in_err-check_memories
returns-in_err-check_memories c =
    let a = c.args in
    begin_promised a.tables.now a.running.now _
    (ap {B = BeginEnd} (λ (answer : Begun). record { answer = answer; memory = a.running.now }) (passed_on _ _ c.from_residual.ensures.1)
    ∙ sym (begin_checked a.tables.now a.running.now _ c.in_err-check_memories.ensures))

pub write_begun-requires : goal.write_begun-requires
unfolding MemoriesChecked
write_begun-requires c =
    let a = c.args in
    let pass = c.in_ok-check_memories.ensures in
    let sized = whole a.tables.now a.running.now pass.0 in
    (sized.1, rw c.of-tables.ensures (((pass_iff a.tables.now).0 pass.1).pieces.1))

pub of-tables-requires : goal.of-tables-requires
unfolding MemoriesChecked
of-tables-requires c = (whole c.args.tables.now c.args.running.now c.in_ok-check_memories.ensures.0).0

pub returns : goal.returns
unfolding MemoriesChecked
returns c =
    let a = c.args in
    let pass = c.in_ok-check_memories.ensures in
    begin_promised a.tables.now a.running.now _
    (ap begun_well (c.write_begun.ensures ∙ ap (λ (t : List ℕ). begun_with t a.running.now) c.of-tables.ensures) ∙ sym (begin_done a.tables.now a.running.now pass.0 pass.1))
