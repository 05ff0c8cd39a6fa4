-- How depths and gains are filled in, as the code does it: as bytes, which count modulo 256. Assumes nothing: these are definitions.
use Rattle.std.specs.Prelude.{List, ℕ, zero, suc, ◌+◌, ◌-◌, ◌%◌, set}
use Rattle.tables.specs.Layout.{info_at, depth_at}
use Rattle.tables.specs.Reads.{info_in, depth_in, first_child_in, back_in}
use Rattle.stepping.specs.Steps.{children_end_in}

-- ── Depths ──

-- A state is one deeper than its failure.
unfoldable pub depth_for : List ℕ → ℕ → ℕ
depth_for t i = (depth_in t (back_in t i) + 1) % 256

unfoldable pub with_depth : List ℕ → ℕ → List ℕ
unfolding depth_for
with_depth t i = set t (depth_at + i) (depth_for t i)

-- The depths of the states from the first one past the root on, up to, without, a number.
unfoldable pub with_depths : List ℕ → ℕ → List ℕ
with_depths t zero = t
with_depths t (suc zero) = t
with_depths t (suc (suc i)) = with_depth (with_depths t (suc i)) (suc i)

-- ── Gains ──

-- To the info of a child is added what is left of one: one and the depth of its parent, less its own depth.
unfoldable pub info_for : List ℕ → ℕ → ℕ → ℕ
info_for t parent child = (info_in t child + 256 + 1 + depth_in t parent - depth_in t child) % 256

unfoldable pub with_gain : List ℕ → ℕ → ℕ → List ℕ
unfolding info_for
with_gain t parent child = set t (info_at + child) (info_for t parent child)

-- The gains of so many children, from a number on.
unfoldable pub with_gains : List ℕ → ℕ → ℕ → ℕ → List ℕ
with_gains t parent from zero = t
with_gains t parent from (suc n) = with_gain (with_gains t parent from n) parent (from + n)

-- The gains of all children of a state.
unfoldable pub with_gains_of : List ℕ → ℕ → ℕ → List ℕ
with_gains_of t states parent = with_gains t parent (first_child_in t parent) (children_end_in t states parent - first_child_in t parent)

-- The same for the parents below a number.
unfoldable pub with_gains_below : List ℕ → ℕ → ℕ → List ℕ
with_gains_below t states zero = t
with_gains_below t states (suc parent) = with_gains_of (with_gains_below t states parent) states parent

-- ── The whole ──

-- First the depths; then the gains, of the root as its own parent, and of all children.
unfoldable pub filled : List ℕ → ℕ → List ℕ
filled t states = with_gains_below (with_gain (with_depths t states) 0 0) states states
