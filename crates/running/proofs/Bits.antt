-- A number is made of its bits: the lowest is its remainder by 2, and the others are those of its half.
-- Assumes nothing.
use mathlib.Core.Path.{◌≡◌, refl, sym, ap, ◌∙◌}
use mathlib.Core.Bool.{Bool, true, false, cond}
use Prim.Native.Nat.{ℕ, zero, suc, ◌+◌, ◌*◌, ◌/◌, ◌%◌, ◌^◌, ◌<◌}
use native.Mathlib.Nat.{pow-succ'}
use native.Mathlib.Omega.{arith}
use lib.Dec.{eqb}
use Rattle.bits.specs.Bits.{bit_of}
use Rattle.bits.proofs.Bits.{bit_next, bit_first}
use Rattle.running.specs.Layout.{bits}

-- Below 2 the bit says the number.
low : (y : ℕ) → y < 2 → cond (eqb y 1) 1 0 ≡ y
low zero h = refl
low (suc zero) h = refl
low (suc (suc y)) h = absurd (omega arith)

-- Bit j of a number that has a bit for each test is test j.
pub bit_of_lem : (n : ℕ) (test : ℕ → Bool) (j : ℕ) → j < n → bit_of (bits n test) j ≡ test j
unfolding bits
bit_of_lem zero test j h = absurd (omega arith)
bit_of_lem (suc n) test zero h = bit_first (cond (test 0) 1 0 + 2 * bits n (λ j. test (suc j))) ∙ go (test 0)
  where
    go : (v : Bool) → eqb ((cond v 1 0 + 2 * bits n (λ j. test (suc j))) % 2) 1 ≡ v
    go true = let e : (1 + 2 * bits n (λ j. test (suc j))) % 2 ≡ 1 = omega arith in rw e
    go false = let e : (0 + 2 * bits n (λ j. test (suc j))) % 2 ≡ 0 = omega arith in rw e
bit_of_lem (suc n) test (suc j) h =
    bit_next (cond (test 0) 1 0 + 2 * bits n (λ i. test (suc i))) j ∙ ap (λ (y : ℕ). bit_of y j) (go (test 0)) ∙ bit_of_lem n (λ i. test (suc i)) j (omega arith)
  where
    go : (v : Bool) → (cond v 1 0 + 2 * bits n (λ i. test (suc i))) / 2 ≡ bits n (λ i. test (suc i))
    go true = omega arith
    go false = omega arith

-- A number below 2 ^ n is determined by its n bits.
pub bits_of : (n y : ℕ) (test : ℕ → Bool) → y < 2 ^ n → ((j : ℕ) → j < n → bit_of y j ≡ test j) → y ≡ bits n test
unfolding bits
bits_of zero y test small h = omega arith
bits_of (suc n) y test small h =
    let first : cond (test 0) 1 0 ≡ y % 2 = ap (λ v. cond v 1 0) (sym (h 0 (omega arith)) ∙ bit_first y) ∙ low (y % 2) (omega arith) in
    let half : y / 2 < 2 ^ n = (let e : 2 ^ suc n ≡ 2 * 2 ^ n = pow-succ' 2 n in omega arith) in
    let rest : y / 2 ≡ bits n (λ j. test (suc j)) = bits_of n (y / 2) (λ j. test (suc j)) half (λ j l. sym (bit_next y j) ∙ h (suc j) (omega arith)) in
    omega arith

pub bits_below : (n : ℕ) (test : ℕ → Bool) → bits n test < 2 ^ n
unfolding bits
bits_below zero test = omega arith
bits_below (suc n) test =
    let e : 2 ^ suc n ≡ 2 * 2 ^ n = pow-succ' 2 n in
    let rest : bits n (λ j. test (suc j)) < 2 ^ n = bits_below n (λ j. test (suc j)) in
    go (test 0) e rest
  where
    go : (v : Bool) → 2 ^ suc n ≡ 2 * 2 ^ n → bits n (λ j. test (suc j)) < 2 ^ n → cond v 1 0 + 2 * bits n (λ j. test (suc j)) < 2 ^ suc n
    go true e rest = omega arith
    go false e rest = omega arith
