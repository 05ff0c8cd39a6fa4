-- The first pieces wait one after the other; those that are no first pieces change nothing.
-- Assumes nothing.
use mathlib.Core.Path.{◌≡◌, refl, sym, ap, ap₂, ◌∙◌}
use mathlib.Core.Bool.{Bool, true, false, cond}
use mathlib.Core.List.{List}
use Prim.Native.Nat.{ℕ, zero, suc, ◌+◌}
use native.Mathlib.Numerals.{add-one}
use lib.ListN.{length}
use Rattle.lent.proofs.Zeros.{length_zeros}
use Rattle.tables.specs.Reads.{first_in}
use Rattle.window.specs.Waiting.{with_waiting_from}
use Rattle.window.specs.Begun.{waiting_if_first, firsts_waiting, cleared, looked_through, windows_begun}
use Rattle.window.proofs.Waiting.{length_waiting_from}

module _ (t m : List ℕ) (p : ℕ) where
  pub first_waits : first_in t p ≡ true → waiting_if_first t m p ≡ with_waiting_from t m p 0
  unfolding waiting_if_first
  first_waits e = rw e

  pub other_waits_not : first_in t p ≡ false → waiting_if_first t m p ≡ m
  unfolding waiting_if_first
  other_waits_not e = rw e

  pub length_first : length (waiting_if_first t m p) ≡ length m
  unfolding waiting_if_first
  length_first = go (first_in t p)
    where
      go : (v : Bool) → length (cond v (with_waiting_from t m p 0) m) ≡ length m
      go true = length_waiting_from t m p 0
      go false = refl

  firsts_more : firsts_waiting t m (p + 1) ≡ waiting_if_first t (firsts_waiting t m p) p
  unfolding firsts_waiting
  firsts_more = rw add-one

-- One turn: the next piece waits if it is a first one.
pub firsts_turn : (t m₀ : List ℕ) (p : ℕ) {m m' : List ℕ} → m ≡ firsts_waiting t m₀ p → m' ≡ waiting_if_first t m p → m' ≡ firsts_waiting t m₀ (p + 1)
firsts_turn t m₀ p before turn = turn ∙ ap (λ (l : List ℕ). waiting_if_first t l p) before ∙ sym (firsts_more t m₀ p)

-- Once every piece that is looked at has had its turn, the windows have begun.
pub firsts_begun : (t m : List ℕ) (n : ℕ) {zeroed m' : List ℕ} → zeroed ≡ cleared m → n ≡ looked_through t → m' ≡ firsts_waiting t zeroed n → m' ≡ windows_begun t m
unfolding windows_begun
firsts_begun t m n clear all e = e ∙ ap₂ (firsts_waiting t) clear all

pub length_firsts : (t m : List ℕ) (n : ℕ) → length (firsts_waiting t m n) ≡ length m
unfolding firsts_waiting
length_firsts t m zero = refl
length_firsts t m (suc p) = length_first t (firsts_waiting t m p) p ∙ length_firsts t m p

pub length_cleared : (m : List ℕ) → length (cleared m) ≡ length m
length_cleared m = length_zeros m 0 _

pub length_begun : (t m : List ℕ) → length (windows_begun t m) ≡ length m
unfolding windows_begun
length_begun t m = length_firsts t (cleared m) (looked_through t) ∙ length_cleared m
