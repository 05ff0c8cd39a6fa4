-- The two arms are the two sides of the definition's test: no state has the byte as its label, or some has.
-- Assumes nothing.
use native.Mathlib.Omega.{arith}
use mathlib.Core.Path.{◌≡◌, refl, sym}
use borrow.Author.Tests.{eq-eqb, ne_eqb}
use Rattle.columns.specs.Columns.{labelled_by, class_for, next_class, with_class}
use Rattle.columns.proofs.put_class.Goals as goal
use Rattle.columns.proofs.put_class.Goals.{in-Some, in-None}

pub returns-clause-value : goal.returns-clause-value
unfolding next_class with_class class_for
returns-clause-value c =
    let a = c.args in
    elim c.match-labelled.branch [
      | in-Some w ↦
          let some : labelled_by a.t.now a.states a.byte ≡ 0 → ⊥ = λ e. omega (arith, e, rw c.of.ensures at w.in-Some.ensures.value, w.in-Some.ensures.bounds) in
          rw (ne_eqb (labelled_by a.t.now a.states a.byte) 0 some, c.put2.ensures, c.entry.ensures, w.class-is) (refl, refl)
      | in-None w ↦
          let none : labelled_by a.t.now a.states a.byte ≡ 0 = sym (rw c.of.ensures at w.in-None.ensures.value) in
          rw (eq-eqb (labelled_by a.t.now a.states a.byte) 0 none, c.put2.ensures, c.entry.ensures, w.class-is) (refl, refl)
    ]
