-- One child and one parent at a time: each turn of a loop is one more of its definition.
-- Assumes nothing.
use mathlib.Core.Path.{◌≡◌, refl, ap, ◌∙◌}
use mathlib.Core.List.{List}
use Prim.Native.Nat.{ℕ, suc, ◌+◌, ◌-◌, ◌*◌, ◌≤◌}
use native.Mathlib.Omega.{arith}
use Rattle.lent.specs.Numbers.{with_number}
use Rattle.tables.specs.Layout.{fail_at}
use Rattle.tables.specs.Reads.{first_child_in}
use Rattle.stepping.specs.Steps.{children_end_in}
use Rattle.linking.specs.Failures.{failure_of_child, with_failure, with_failures, with_children_of, with_parents, linked}

module _ (t : List ℕ) (states parent child : ℕ) where
  pub failure_written : (written : List ℕ) (at failure : ℕ) → at ≡ child → failure ≡ failure_of_child t states parent child
      → written ≡ with_number 2 t (fail_at + 2 * at) failure → written ≡ with_failure t states parent child
  unfolding with_failure
  failure_written written at failure x y e = e ∙ rw (x, y) refl

module _ (t : List ℕ) (states parent from : ℕ) where
  pub children_start : t ≡ with_failures t states parent from (from - from)
  unfolding with_failures
  children_start = let e : from - from ≡ 0 = omega arith in rw e

  pub children_further : (child state : ℕ) (before now : List ℕ) → from ≤ child → state ≡ child → before ≡ with_failures t states parent from (child - from)
      → now ≡ with_failure before states parent state → now ≡ with_failures t states parent from (child + 1 - from)
  unfolding with_failures
  children_further child state before now l is e h =
      let more : child + 1 - from ≡ suc (child - from) = omega arith in
      let here : from + (child - from) ≡ child = omega arith in
      rw (more, here, ← e, ← is) h

  pub children_done : (child end : ℕ) (now : List ℕ) → from ≡ first_child_in t parent → end ≡ children_end_in t states parent → child - from ≡ end - from
      → now ≡ with_failures t states parent from (child - from) → now ≡ with_children_of t states parent
  unfolding with_children_of
  children_done child end now x y z e = e ∙ rw (z, y, x) refl

module _ (t : List ℕ) (states : ℕ) where
  pub parents_start : t ≡ with_parents t states (1 - 1)
  unfolding with_parents
  parents_start = refl

  pub parents_further : (parent state : ℕ) (before now : List ℕ) → 1 ≤ parent → state ≡ parent → before ≡ with_parents t states (parent - 1)
      → now ≡ with_children_of before states state → now ≡ with_parents t states (parent + 1 - 1)
  unfolding with_parents
  parents_further parent state before now l is e h =
      let more : parent + 1 - 1 ≡ suc (parent - 1) = omega arith in
      let here : parent - 1 + 1 ≡ parent = omega arith in
      rw (more, here, ← e, ← is) h

  pub parents_done : (parent : ℕ) (now : List ℕ) → parent - 1 ≡ states - 1 → now ≡ with_parents t states (parent - 1) → now ≡ linked t states
  unfolding linked
  parents_done parent now z e = e ∙ ap (with_parents t states) z
