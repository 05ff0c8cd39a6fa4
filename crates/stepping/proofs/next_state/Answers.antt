-- `next_state` meets its contract: from the failure the walk lands where the whole walk lands, and a failure has a smaller number.
-- Assumes nothing.
use mathlib.Core.Path.{◌≡◌, refl, sym, ◌∙◌}
use Prim.Native.Nat.{◌<◌}
use native.Mathlib.Omega.{arith}
use Rattle.tables.proofs.Followed.{back_below}
use Rattle.stepping.proofs.Turns.{going_start, going_forward, going_root, going_back}
use Rattle.stepping.proofs.next_state.Goals as goal

pub loop-next-init : goal.loop-next-init
loop-next-init c = let a = c.args in going_start a.t.now a.states a.state.0 a.byte

pub returns-in-Some : goal.returns-in-Some
returns-in-Some c =
    let a = c.args in
    let child = c.in-Some in
    let some : child.next.0 ≡ 0 → ⊥ = λ e. omega (arith, e, child.ensures.bounds.0) in
    (going_forward a.t.now a.states a.state.0 a.byte c.loop-next.from.0 c.loop-next.steps c.loop-next.invariant child.next.0 child.ensures.value some, child.ensures.bounds.1)

pub returns-then-number-eq0 : goal.returns-then-number-eq0
returns-then-number-eq0 c =
    let a = c.args in
    let root : c.loop-next.from.0 ≡ 0 = sym c.number.ensures ∙ c.if-number-eq0.true in
    (going_root a.t.now a.states a.state.0 a.byte c.loop-next.from.0 c.loop-next.steps c.loop-next.invariant 0 c.in_default.ensures.value refl root, omega arith)

pub loop-next-smaller : goal.loop-next-smaller
loop-next-smaller c =
    let a = c.args in
    omega (arith, c.failure-from.ensures.0, back_below a.t.now c.loop-next.from.0 (omega (arith, c.number.ensures, c.if-number-eq0.false)))

pub loop-next-preserved : goal.loop-next-preserved
loop-next-preserved c =
    let a = c.args in
    let some : 0 < c.loop-next.from.0 = omega (arith, c.number.ensures, c.if-number-eq0.false) in
    going_back a.t.now a.states a.state.0 a.byte c.loop-next.from.0 c.loop-next.steps c.loop-next.invariant 0 c.in_default.ensures.value refl some
    c.failure-from.result.0 c.failure-from.ensures.0
