-- What is found from the failure on is what is found from the whole, and a failure has a smaller number.
-- Assumes nothing.
use mathlib.Core.Path.{◌≡◌, refl, sym, ◌∙◌}
use Prim.Native.Nat.{◌≤◌}
use native.Mathlib.Omega.{arith}
use Rattle.stepping.specs.Steps.{child_by_in}
use Rattle.tables.proofs.Followed.{back_below}
use Rattle.seeking.proofs.Seeking.{sought_dense, sought_child, sought_back}
use Rattle.seeking.proofs.sought.Goals as goal

pub loop-from-init : goal.loop-from-init
loop-from-init c = rw c.state_at-from.ensures (omega arith, refl)

pub returns-in-Some : goal.returns-in-Some
returns-in-Some c =
    let a = c.args in
    let found = c.in-Some in
    let some : child_by_in a.t.now a.states c.loop-from.from.0 a.byte ≡ 0 → ⊥ = λ e. omega (arith, e, found.ensures.value, found.ensures.bounds) in
    let whole = c.loop-from.invariant.1 ∙ sought_child a.t.now a.states a.dense a.byte (omega arith) c.loop-from.from.0 (omega arith) some in
    (c.index-in-Some.ensures.0 ∙ found.ensures.value ∙ sym whole, c.index-in-Some.ensures.1)

pub loop-from-smaller : goal.loop-from-smaller
loop-from-smaller c =
    let deep : c.args.dense ≤ c.loop-from.from.0 = omega arith in
    omega (arith, c.failure-from.ensures.0, back_below c.args.t.now c.loop-from.from.0 (omega (arith, deep)))

pub loop-from-preserved : goal.loop-from-preserved
loop-from-preserved c =
    let a = c.args in
    let next = c.failure-from in
    let whole = c.loop-from.invariant.1 ∙ sought_back a.t.now a.states a.dense a.byte (omega arith) c.loop-from.from.0 (omega arith) (sym c.in_default.ensures.value) in
    rw next.ensures.0 (omega (arith, next.ensures.0, next.ensures.1), whole)

pub returns : goal.returns
returns c =
    let a = c.args in
    let whole = c.loop-from.invariant.1 ∙ sought_dense a.t.now a.states a.dense a.byte (omega arith) c.loop-from.from.0 (omega arith) in
    (c.row.ensures.0 ∙ sym whole, c.row.ensures.1)
