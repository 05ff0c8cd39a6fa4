-- How the failures are filled in, in the order of the numbers, as the code does it. Assumes nothing: these are definitions.
use Rattle.std.specs.Prelude.{List, ℕ, zero, suc, ◌+◌, ◌-◌, ◌*◌}
use Rattle.lent.specs.Numbers.{with_number}
use Rattle.tables.specs.Layout.{fail_at}
use Rattle.tables.specs.Reads.{label_in, first_child_in, back_in}
use Rattle.stepping.specs.Steps.{children_end_in, next_in}

-- A child fails to where its last byte leads from the failure of its parent.
unfoldable pub failure_of_child : List ℕ → ℕ → ℕ → ℕ → ℕ
failure_of_child t states parent child = (next_in t states (back_in t parent) (label_in t child)).at

unfoldable pub with_failure : List ℕ → ℕ → ℕ → ℕ → List ℕ
unfolding failure_of_child
with_failure t states parent child = with_number 2 t (fail_at + 2 * child) (failure_of_child t states parent child)

-- The failures of so many children, from a number on.
unfoldable pub with_failures : List ℕ → ℕ → ℕ → ℕ → ℕ → List ℕ
unfolding with_failure
with_failures t states parent from zero = t
with_failures t states parent from (suc n) = with_failure (with_failures t states parent from n) states parent (from + n)

-- The failures of all children of a state.
unfoldable pub with_children_of : List ℕ → ℕ → ℕ → List ℕ
unfolding with_failures
with_children_of t states parent = with_failures t states parent (first_child_in t parent) (children_end_in t states parent - first_child_in t parent)

-- The same for so many states, from the first one past the root on.
unfoldable pub with_parents : List ℕ → ℕ → ℕ → List ℕ
unfolding with_children_of
with_parents t states zero = t
with_parents t states (suc n) = with_children_of (with_parents t states n) states (n + 1)

-- All failures. The root and its children fail to the root, whose number is 0: that stands in zero memory already.
unfoldable pub linked : List ℕ → ℕ → List ℕ
unfolding with_parents
linked t states = with_parents t states (states - 1)
