-- The next state is what was found, or the root: the test of the definition decides it. Assumes nothing.
use mathlib.Core.Path.{◌≡◌}
use mathlib.Core.Logic.{⊎_elim}
use mathlib.Core.List.{List}
use Prim.Native.Nat.{ℕ, ◌≤◌, ◌<◌}
use borrow.Author.Tests.{lt-ltb, le-ltb}
use Rattle.lent.proofs.Cases.{lt_or_le}
use Rattle.seeking.specs.Quick.{sought_in, quick_in}

module _ (t : List ℕ) (states dense i byte : ℕ) where
  pub quick_found : sought_in t states dense i byte < states → quick_in t states dense i byte ≡ sought_in t states dense i byte
  unfolding quick_in
  quick_found l = rw (lt-ltb (sought_in t states dense i byte) states l)

  pub quick_stray : states ≤ sought_in t states dense i byte → quick_in t states dense i byte ≡ 0
  unfolding quick_in
  quick_stray l = rw (le-ltb (sought_in t states dense i byte) states l)

  -- Whatever the bytes are, it is one of the states.
  pub quick_inside : 0 < states → quick_in t states dense i byte < states
  quick_inside some = ⊎_elim
      (λ (l : sought_in t states dense i byte < states). rw (quick_found l) l)
      (λ (l : states ≤ sought_in t states dense i byte). rw (quick_stray l) some)
      (lt_or_le (sought_in t states dense i byte) states)
