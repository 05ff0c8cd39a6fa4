-- The three ends are the child, the root and the failure of the definition.
-- Assumes nothing.
use mathlib.Core.Path.{◌≡◌, refl, sym}
use mathlib.Core.Bool.{true, false}
use native.Mathlib.Omega.{arith}
use lib.Dec.{eqb}
use borrow.Author.Tests.{eq-eqb, ne_eqb}
use Rattle.stepping.specs.Steps.{child_by_in}
use Rattle.cells.specs.Cells.{next_for}
use Rattle.cells.proofs.next_of.Goals as goal

pub returns-in-Some : goal.returns-in-Some
unfolding next_for
returns-in-Some c =
    let a = c.args in
    let found = c.in-Some in
    let child : child_by_in a.t.now a.states a.state.0 a.column.byte ≡ 0 → ⊥ = λ e. omega (arith, e, found.ensures.value, found.ensures.bounds) in
    rw (ne_eqb (child_by_in a.t.now a.states a.state.0 a.column.byte) 0 child) (simp (c.index.ensures.0, found.ensures.value), omega arith)

pub returns-then-eq : goal.returns-then-eq
unfolding next_for
returns-then-eq c =
    let a = c.args in
    let none : child_by_in a.t.now a.states a.state.0 a.column.byte ≡ 0 = sym c.in_default.ensures.value in
    let root : eqb a.state.0 0 ≡ true = sym (rw c.root.ensures at c.if-eq.ensures) in
    rw (eq-eqb (child_by_in a.t.now a.states a.state.0 a.column.byte) 0 none, root) (refl, omega arith)

pub returns : goal.returns
unfolding next_for
returns c =
    let a = c.args in
    let none : child_by_in a.t.now a.states a.state.0 a.column.byte ≡ 0 = sym c.in_default.ensures.value in
    let other : eqb a.state.0 0 ≡ false = sym (rw c.root.ensures at c.if-eq.ensures) in
    rw (eq-eqb (child_by_in a.t.now a.states a.state.0 a.column.byte) 0 none, other) (simp (c.cell.ensures.0, c.failure-back.ensures.0), omega arith)
