-- `child_by` meets its contract: the search goes over the state's children, and no further than there are states.
-- Assumes nothing.
use mathlib.Core.Path.{ap₂, ◌∙◌}
use Prim.Native.Nat.{◌-◌}
use Rattle.stepping.specs.Steps.{labelled_in, child_by_in}
use Rattle.stepping.proofs.child_by.Goals as goal

pub returns-clause-value : goal.returns-clause-value
unfolding child_by_in
returns-clause-value c =
    let a = c.args in
    c.labelled.ensures.value ∙ ap₂ (λ from to. labelled_in a.t.now a.byte (to - from) from) c.children.ensures.0 c.children.ensures.1
