-- Two keywords have in common the bytes passed so far and what their rests have in common: each turn passes one more.
-- Assumes nothing.
use mathlib.Core.Path.{◌≡◌, refl}
use mathlib.Core.Logic.{◌⊎◌, ⊎_elim}
use mathlib.Core.List.{List, [], ◌∷◌}
use Prim.Native.Nat.{ℕ, ◌+◌, ◌-◌}
use native.Mathlib.Omega.{arith}
use lib.ListN.{take, drop}
use borrow.Author.Tests.{eq-eqb, ne_eqb}
use Rattle.meaning.specs.Matching.{bytes_after}
use Rattle.format.specs.Prefixes.{common_prefix}

-- The bytes that are lent for a keyword.
pub lent_bytes : (bytes : List ℕ) (x m : ℕ) → take (x + m - x) (drop x bytes) ≡ bytes_after x m bytes
unfolding bytes_after
lent_bytes bytes x m = let long : x + m - x ≡ m = omega arith in rw long

nothing_behind : (words : List ℕ) → common_prefix words [] ≡ 0
unfolding common_prefix
nothing_behind [] = refl
nothing_behind (x ∷ xs) = refl

module _ {xs ys : List ℕ} where
  -- Where both go on, the next bytes are the same or not.
  module _ {x y : ℕ} {more others : List ℕ} (there : xs ≡ x ∷ more) (here : ys ≡ y ∷ others) where
    pub common_more : x ≡ y → common_prefix xs ys ≡ 1 + common_prefix more others
    unfolding common_prefix
    common_more e = rw (there, here, eq-eqb x y e)

    pub common_differ : (x ≡ y → ⊥) → common_prefix xs ys ≡ 0
    unfolding common_prefix
    common_differ e = rw (there, here, ne_eqb x y e)

  -- Where one of them ends, nothing more is in common.
  pub common_ends : (xs ≡ []) ⊎ (ys ≡ []) → common_prefix xs ys ≡ 0
  unfolding common_prefix
  common_ends end = ⊎_elim (λ (e : xs ≡ []). rw e refl) (λ (e : ys ≡ []). rw e (nothing_behind xs)) end
