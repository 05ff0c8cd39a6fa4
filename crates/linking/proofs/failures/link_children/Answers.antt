-- `link_children` meets its contract: before each turn the children with smaller numbers have their failures.
-- Assumes nothing.
use mathlib.Core.Path.{◌≡◌, refl, ap, ◌∙◌}
use Prim.Native.Nat.{ℕ, ◌+◌}
use native.Mathlib.Omega.{arith}
use Rattle.std.specs.declared.ops.Range.{Range}
use Rattle.tables.specs.Reads.{first_child_in}
use Rattle.stepping.specs.Steps.{children_end_in}
use Rattle.linking.proofs.Turns.{children_start, children_further, children_done}
use Rattle.linking.proofs.failures.link_children.Goals as goal

pub loop-child-init : goal.loop-child-init
loop-child-init c = let a = c.args in (refl, omega arith, omega arith, children_start a.t.now a.states a.parent.0 c.into_iter-child-iterator.result.start)

pub loop-child-preserved : goal.loop-child-preserved
loop-child-preserved c =
    let a = c.args in
    let before = c.loop-child.invariant in
    let next = c.loop-child.child-iterator.start in
    let turn = c.in-Some.ensures.steps in
    let is : c.numbered.result.0 ≡ next = c.numbered.ensures ∙ turn.1.1 in
    let after : c.next.new.self.start ≡ next + 1 = turn.1.2 in
    let further = children_further a.t.now a.states a.parent.0 c.into_iter-child-iterator.result.start next c.numbered.result.0 c.loop-child.t _ before.1 is before.3 c.link_child.ensures in
    rw after (turn.0 ∙ before.0, omega (arith, before.1), omega (arith, before, turn.1.0), further)

pub returns : goal.returns
returns c =
    let a = c.args in
    let before = c.loop-child.invariant in
    let all = c.into_iter-child-iterator.result in
    let first : all.start ≡ first_child_in a.t.now a.parent.0 = ap (λ (r : Range ℕ). r.start) c.into_iter-child-iterator.ensures.into_iter_gives ∙ (rw c.of.ensures at c.children-child-items.ensures.0) in
    let end : all.end ≡ children_end_in a.t.now a.states a.parent.0 = ap (λ (r : Range ℕ). r.end) c.into_iter-child-iterator.ensures.into_iter_gives ∙ (rw c.of.ensures at c.children-child-items.ensures.1) in
    children_done a.t.now a.states a.parent.0 all.start c.loop-child.child-iterator.start all.end c.loop-child.t first end (omega (arith, before, c.in-None.ensures.steps.1.0)) before.3
