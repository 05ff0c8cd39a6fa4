-- Each way to an answer comes to the exact reading, which is right. Assumes nothing.
use mathlib.Core.Path.{sym, ap, ◌∙◌}
use Prim.Native.Nat.{ℕ, ◌<◌}
use native.Mathlib.Omega.{arith}
use lib.ListN.{get_or}
use Rattle.tables.specs.Layout.{tables_size}
use Rattle.builder.specs.Passes.{tables_from}
use Rattle.builder.specs.Answers.{Built}
use Rattle.builder.specs.Build.{outcome, outcome_of, blank_of}
use Rattle.builder.proofs.Right.{build_small, exact_right}
use Rattle.builder.proofs.Ways.{passed_on, accepted_way, refused_way, accepted_fresh}
use Rattle.builder.proofs.build.Goals as goal

pub returns-then-tables-lt-SIZE : goal.returns-then-tables-lt-SIZE
unfolding tables_size
returns-then-tables-lt-SIZE c =
    let a = c.args in
    let each : (i : ℕ) → get_or a.book.now i 0 < 256 = λ i. omega (arith, c.type_inv.book i) in
    exact_right a.book.now a.tables.now each _ _ (sym (build_small a.book.now a.tables.now c.if-tables-lt-SIZE.true))

pub returns-in_err-accepted : goal.returns-in_err-accepted
unfolding blank_of tables_size
returns-in_err-accepted c =
    let a = c.args in
    let each : (i : ℕ) → get_or a.book.now i 0 < 256 = λ i. omega (arith, c.type_inv.book i) in
    exact_right a.book.now a.tables.now each _ _
    (ap (λ (answer : Built). outcome answer c.clear.new.s) (passed_on _ _ c.from_residual.ensures.1)
    ∙ refused_way a.book.now a.tables.now each c.if-tables-lt-SIZE.false _ c.in_err-accepted.ensures _ c.clear.ensures)

pub fill-requires : goal.fill-requires
unfolding blank_of tables_size
fill-requires c =
    let a = c.args in
    let each : (i : ℕ) → get_or a.book.now i 0 < 256 = λ i. omega (arith, c.type_inv.book i) in
    rw c.clear.ensures (accepted_fresh a.book.now a.tables.now each c.if-tables-lt-SIZE.false _ c.in_ok-accepted.ensures)

pub returns : goal.returns
unfolding outcome_of blank_of tables_size
returns c =
    let a = c.args in
    let each : (i : ℕ) → get_or a.book.now i 0 < 256 = λ i. omega (arith, c.type_inv.book i) in
    let way = accepted_way a.book.now a.tables.now each c.if-tables-lt-SIZE.false _ c.in_ok-accepted.ensures in
    exact_right a.book.now a.tables.now each _ _
    (ap (outcome _) (c.fill.ensures ∙ ap (tables_from a.book.now) c.clear.ensures) ∙ sym way.1)
