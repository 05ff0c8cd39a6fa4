-- Below as many zeros as a number ends in no bit is set, and the next one is: each zero is one bit that is passed.
-- Assumes nothing.
use mathlib.Core.Path.{◌≡◌, refl, sym, ap, ◌∙◌}
use mathlib.Core.Bool.{Bool, true, false, false≢true}
use Prim.Native.Nat.{ℕ, zero, suc, ◌+◌, ◌-◌, ◌/◌, ◌%◌, ◌^◌, ◌≤◌, ◌<◌}
use native.Mathlib.Omega.{arith}
use Rattle.std.proofs.Math.Nat.{lt_of_not-le}
use lib.Dec.{eqb}
use lib.Count.{count_trailing_zeros, under}
use Rattle.bits.specs.Bits.{bit_of, First}
use Rattle.bits.proofs.Bits.{bit_next, bit_first, bit_shifted, bit_past}

pub zeros_below : (n x j : ℕ) → j < count_trailing_zeros n x → bit_of x j ≡ false
unfolding count_trailing_zeros
zeros_below zero x j h = absurd (omega arith)
zeros_below (suc n) x j h = go (x % 2) refl j h (zeros_below n (x / 2))
  where
    go : (r : ℕ) → x % 2 ≡ r → (k : ℕ) → k < under r (count_trailing_zeros n (x / 2))
        → ((i : ℕ) → i < count_trailing_zeros n (x / 2) → bit_of (x / 2) i ≡ false) → bit_of x k ≡ false
    go zero e zero l rest = bit_first x ∙ ap (λ (y : ℕ). eqb y 1) e
    go zero e (suc i) l rest = bit_next x i ∙ rest i (omega arith)
    go (suc r) e k l rest = absurd (omega arith)

pub zeros_end : (n x : ℕ) → count_trailing_zeros n x < n → bit_of x (count_trailing_zeros n x) ≡ true
unfolding count_trailing_zeros
zeros_end zero x h = absurd (omega arith)
zeros_end (suc n) x h = go (x % 2) refl (omega arith) h (zeros_end n (x / 2))
  where
    go : (r : ℕ) → x % 2 ≡ r → r < 2 → under r (count_trailing_zeros n (x / 2)) < suc n
        → (count_trailing_zeros n (x / 2) < n → bit_of (x / 2) (count_trailing_zeros n (x / 2)) ≡ true) → bit_of x (under r (count_trailing_zeros n (x / 2))) ≡ true
    go zero e s l rest = bit_next x (count_trailing_zeros n (x / 2)) ∙ rest (omega arith)
    go (suc zero) e s l rest = bit_first x ∙ ap (λ (y : ℕ). eqb y 1) e
    go (suc (suc r)) e s l rest = absurd (omega arith)

-- The first bit from j on that is set is as far from j as the number that begins there has zeros.
module _ (n x j : ℕ) (inside : j < n) where
  abbrev pub zeros : ℕ
  zeros = count_trailing_zeros n (x / 2 ^ j)

  passed_by : (k : ℕ) → j ≤ k → k < j + zeros → bit_of x k ≡ false
  passed_by k from below =
      let e : k ≡ j + (k - j) = omega arith in
      ap (bit_of x) e ∙ sym (bit_shifted x j (k - j)) ∙ zeros_below n (x / 2 ^ j) (k - j) (omega arith)

  pub first_found : zeros < n - j → First (bit_of x) n j (j + zeros)
  first_found few = record {
    reached = omega arith;
    within = omega arith;
    passed = passed_by;
    found = λ l. sym (bit_shifted x j zeros) ∙ zeros_end n (x / 2 ^ j) (omega arith);
  }

  pub first_none : n - j ≤ zeros → First (bit_of x) n j n
  first_none many = record {
    reached = omega arith;
    within = omega arith;
    passed = λ k from below. passed_by k from (omega arith);
    found = λ l. absurd (omega arith);
  }

-- From the end on there is none.
pub first_end : (test : ℕ → Bool) (n j : ℕ) → j ≤ n → n ≤ j → First test n j n
first_end test n j small large = record {
  reached = small;
  within = omega arith;
  passed = λ k from below. absurd (omega arith);
  found = λ l. absurd (omega arith);
}

-- A test that always gives the same has the same first number.
pub first_same : (test other : ℕ → Bool) → ((k : ℕ) → test k ≡ other k) → (n j r : ℕ) → First test n j r → First other n j r
first_same test other same n j r f = record {
  reached = f.reached;
  within = f.within;
  passed = λ k from below. sym (same k) ∙ f.passed k from below;
  found = λ l. sym (same r) ∙ f.found l;
}

-- A number of n bits may be searched as a wider one: what is found lies in its n bits.
module _ (n wide x j : ℕ) (small : x < 2 ^ n) (narrow : n ≤ wide) (inside : j ≤ n) where
  pub first_within : (r : ℕ) → First (bit_of x) wide j r → r < wide → First (bit_of x) n j r × (r < n)
  first_within r f found = (record { reached = f.reached; within = omega (arith, below); passed = f.passed; found = λ l. f.found found }, below)
    where
      below : r < n
      below = lt_of_not-le (λ past. false≢true (sym (bit_past n r x small past) ∙ f.found found))

  pub first_without : First (bit_of x) wide j wide → First (bit_of x) n j n
  first_without f = record {
    reached = inside;
    within = omega arith;
    passed = λ k from below. f.passed k from (omega arith);
    found = λ l. absurd (omega arith);
  }
