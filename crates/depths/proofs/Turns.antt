-- One state at a time: each turn of a loop is one more of its definition. Assumes nothing.
use mathlib.Core.Path.{◌≡◌, refl, ◌∙◌}
use mathlib.Core.List.{List}
use Prim.Native.Nat.{ℕ, zero, suc, ◌+◌, ◌-◌, ◌%◌, ◌≤◌, ◌<◌}
use native.Mathlib.Numerals.{add-one}
use native.Mathlib.Omega.{arith}
use Rattle.tables.specs.Reads.{first_child_in}
use Rattle.stepping.specs.Steps.{children_end_in}
use Rattle.depths.specs.Depths.{with_depth, with_depths, with_gain, with_gains, with_gains_of, with_gains_below}

-- Adding byte by byte, each time modulo 256, ends at the same byte as the sum.
pub same_byte : (info from to : ℕ) → to < 256 → (info + ((from + 1) % 256 + (256 - to)) % 256) % 256 ≡ (info + 256 + 1 + from - to) % 256
same_byte info from to small = omega arith

pub depths_further : (t : List ℕ) (i : ℕ) → 0 < i → with_depths t (suc i) ≡ with_depth (with_depths t i) i
unfolding with_depths
depths_further t zero p = absurd (omega arith)
depths_further t (suc i) p = refl

pub depths_turn : (t₀ : List ℕ) (i state : ℕ) (t now : List ℕ) → 0 < i → t ≡ with_depths t₀ i → state ≡ i → now ≡ with_depth t state → now ≡ with_depths t₀ (i + 1)
depths_turn t₀ i state t now p e z h = rw (add-one, depths_further t₀ i p, ← e, ← z) h

module _ (t : List ℕ) (parent from : ℕ) where
  pub gains_start : t ≡ with_gains t parent from (from - from)
  unfolding with_gains
  gains_start = let e : from - from ≡ 0 = omega arith in rw e

  pub gains_further : (child state : ℕ) (before now : List ℕ) → from ≤ child → state ≡ child → before ≡ with_gains t parent from (child - from)
      → now ≡ with_gain before parent state → now ≡ with_gains t parent from (child + 1 - from)
  unfolding with_gains
  gains_further child state before now l is e h =
      let more : child + 1 - from ≡ suc (child - from) = omega arith in
      let here : from + (child - from) ≡ child = omega arith in
      rw (more, here, ← e, ← is) h

  pub gains_done : (states child end : ℕ) (now : List ℕ) → from ≡ first_child_in t parent → end ≡ children_end_in t states parent → child - from ≡ end - from
      → now ≡ with_gains t parent from (child - from) → now ≡ with_gains_of t states parent
  unfolding with_gains_of
  gains_done states child end now x y z e = e ∙ rw (z, y, x) refl

pub parents_turn : (t₀ : List ℕ) (states parent state : ℕ) (t now : List ℕ) → t ≡ with_gains_below t₀ states parent → state ≡ parent
    → now ≡ with_gains_of t states state → now ≡ with_gains_below t₀ states (parent + 1)
unfolding with_gains_below
parents_turn t₀ states parent state t now e z h = rw (add-one, ← e, ← z) h
