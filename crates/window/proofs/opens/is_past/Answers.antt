-- The closing place is read, and compared with the place: below it the window is past, and at it or above it is not.
-- Assumes nothing.
use mathlib.Core.Path.{◌≡◌, refl, sym}
use mathlib.Core.Bool.{Bool, true, false}
use Prim.Native.Nat.{ℕ, ◌≤◌, ◌<◌}
use native.Mathlib.Omega.{arith}
use lib.Dec.{ltb}
use borrow.Author.Tests.{lt-ltb, le-ltb}
use Rattle.std.proofs.Common.{Ordering, Less, Equal, Greater, nat_cmp, is_lt}
use Rattle.std.specs.Ordering.{MatchOrdering}
use Rattle.std.proofs.lemmas.Cmp.{ranked}
use Rattle.window.proofs.opens.is_past.Goals as goal

-- What an answer says of two numbers.
abbrev Says : ℕ → ℕ → Bool → Type 0
Says a b true = a < b
Says a b false = b ≤ a

said : (a b : ℕ) (r : Bool) → Says a b r → r ≡ ltb a b
said a b true l = sym (lt-ltb a b l)
said a b false l = sym (le-ltb a b l)

compared : (a b x y : ℕ) (test : Ordering → Bool) (r : Bool) → r ≡ test (nat_cmp x y)
    → (x < y → Says a b (test Less)) → (x ≡ y → Says a b (test Equal)) → (y < x → Says a b (test Greater)) → Says a b r
compared a b x y test r e less equal greater = rw e (go (nat_cmp x y) (ranked x y (nat_cmp x y) refl))
  where
    go : (o : Ordering) → MatchOrdering o (x < y) (x ≡ y) (y < x) → Says a b (test o)
    go Less l = less l
    go Equal l = equal l
    go Greater l = greater l

pub returns : goal.returns
returns c =
    let window = c.window_of-window in
    said _ _ _ (compared _ _ window.result.closes.0 c.args.place.0 is_lt _ c.lt.ensures (λ l. omega arith) (λ l. omega arith) (λ l. omega arith))
