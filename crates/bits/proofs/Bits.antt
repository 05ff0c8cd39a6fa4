-- Setting a bit sets that one and keeps the others: bit by bit, the lowest is the remainder by 2 and the others are those of the half.
-- Assumes nothing.
use mathlib.Core.Path.{◌≡◌, refl, sym, ap, ap₂, ◌∙◌}
use mathlib.Core.Bool.{false, ◌||◌}
use Prim.Native.Nat.{ℕ, zero, suc, ◌+◌, ◌-◌, ◌*◌, ◌/◌, ◌%◌, ◌^◌, max, ◌≤◌, ◌<◌}
use native.Mathlib.Nat.{pow-succ', div-div-eq-div-mul, div-one, mod-eq_of_lt, one-mul, mul_assoc, mul_comm}
use native.Mathlib.Omega.{arith}
use lib.Dec.{eqb, eqb-suc-suc, eqb-suc-zero, eqb-zero-suc}
use lib.Bits.{bit_or, or_step, or_lt}
use lib.Pow.{pow-lt, pow-add, high}
use Rattle.bits.specs.Bits.{bit_of, set_bit}

-- ── One bit after the other ──

pub bit_next : (x j : ℕ) → bit_of x (suc j) ≡ bit_of (x / 2) j
unfolding bit_of
bit_next x j = rw (div-div-eq-div-mul x 2 (2 ^ j), ← pow-succ')

pub bit_first : (x : ℕ) → bit_of x 0 ≡ eqb (x % 2) 1
unfolding bit_of
bit_first x = ap (λ (y : ℕ). eqb (y % 2) 1) (div-one x)

pub bit_none : (j : ℕ) → bit_of 0 j ≡ false
bit_none zero = bit_first 0
bit_none (suc j) = bit_next 0 j ∙ bit_none j

-- A number shifted down by i bits begins with bit i.
pub bit_shifted : (x i j : ℕ) → bit_of (x / 2 ^ i) j ≡ bit_of x (i + j)
unfolding bit_of
bit_shifted x i j = ap (λ (y : ℕ). eqb (y % 2) 1) (div-div-eq-div-mul x (2 ^ i) (2 ^ j) ∙ ap (λ (y : ℕ). x / y) (sym (pow-add 2 i j)))

-- ── Two numbers, one above the other ──

-- The low bits of b + 2 ^ k · r are those of b.
pub bit_low : (k j b r : ℕ) → j < k → bit_of (b + 2 ^ k * r) j ≡ bit_of b j
bit_low zero j b r small = absurd (omega arith)
bit_low (suc k) zero b r small =
    let twice : 2 ^ suc k * r ≡ 2 * (2 ^ k * r) = rw (pow-succ' 2 k, mul_assoc) in
    let odd : (b + 2 ^ suc k * r) % 2 ≡ b % 2 = omega arith in
    bit_first (b + 2 ^ suc k * r) ∙ ap (λ (y : ℕ). eqb y 1) odd ∙ sym (bit_first b)
bit_low (suc k) (suc j) b r small =
    let twice : 2 ^ suc k * r ≡ 2 * (2 ^ k * r) = rw (pow-succ' 2 k, mul_assoc) in
    let half : (b + 2 ^ suc k * r) / 2 ≡ b / 2 + 2 ^ k * r = omega arith in
    bit_next (b + 2 ^ suc k * r) j ∙ ap (λ (y : ℕ). bit_of y j) half ∙ bit_low k j (b / 2) r (omega arith) ∙ sym (bit_next b j)

-- From bit k on they are those of r, where b has no more than k bits.
pub bit_high : (k j b r : ℕ) → b < 2 ^ k → bit_of (b + 2 ^ k * r) (k + j) ≡ bit_of r j
bit_high k j b r small =
    let turned : b + 2 ^ k * r ≡ r * 2 ^ k + b = rw (mul_comm (2 ^ k) r) (omega arith) in
    sym (bit_shifted (b + 2 ^ k * r) k j) ∙ ap (λ (y : ℕ). bit_of (y / 2 ^ k) j) turned ∙ ap (λ (y : ℕ). bit_of y j) (high r k small)

-- A number below 2 ^ k has no bit from k on.
pub bit_past : (k j x : ℕ) → x < 2 ^ k → k ≤ j → bit_of x j ≡ false
bit_past k j x small past =
    let e : j ≡ k + (j - k) = omega arith in
    let f : x ≡ x + 2 ^ k * 0 = omega arith in
    ap₂ bit_of f e ∙ bit_high k (j - k) x 0 small ∙ bit_none (j - k)

-- ── A bit that is set ──

module _ (a b : ℕ) where
  or_half : bit_or a b / 2 ≡ bit_or (a / 2) (b / 2)
  or_half = omega (arith, or_step a b)

  or_odd : bit_or a b % 2 ≡ max (a % 2) (b % 2)
  or_odd = omega (arith, or_step a b)

either : (u v : ℕ) → u < 2 → v < 2 → eqb (max u v) 1 ≡ eqb u 1 || eqb v 1
either zero zero p q = refl
either zero (suc zero) p q = refl
either zero (suc (suc v)) p q = absurd (omega arith)
either (suc zero) zero p q = refl
either (suc zero) (suc zero) p q = refl
either (suc zero) (suc (suc v)) p q = absurd (omega arith)
either (suc (suc u)) v p q = absurd (omega arith)

pub bit_or_lem : (j a b : ℕ) → bit_of (bit_or a b) j ≡ bit_of a j || bit_of b j
bit_or_lem zero a b =
    bit_first (bit_or a b)
    ∙ ap (λ (y : ℕ). eqb y 1) (or_odd a b)
    ∙ either (a % 2) (b % 2) (omega arith) (omega arith)
    ∙ sym (rw (bit_first a, bit_first b))
bit_or_lem (suc j) a b =
    bit_next (bit_or a b) j ∙ ap (λ (y : ℕ). bit_of y j) (or_half a b) ∙ bit_or_lem j (a / 2) (b / 2) ∙ sym (rw (bit_next a j, bit_next b j))

-- The one bit of a power of 2.
pub bit_power : (j k : ℕ) → bit_of (2 ^ j) k ≡ eqb k j
bit_power zero zero = bit_first 1
bit_power zero (suc k) = bit_next 1 k ∙ bit_none k ∙ sym (eqb-suc-zero k)
bit_power (suc j) zero =
    let twice : 2 ^ suc j ≡ 2 * 2 ^ j = pow-succ' 2 j in
    let even : 2 ^ suc j % 2 ≡ 0 = omega arith in
    bit_first (2 ^ suc j) ∙ ap (λ (y : ℕ). eqb y 1) even ∙ sym (eqb-zero-suc j)
bit_power (suc j) (suc k) =
    let twice : 2 ^ suc j ≡ 2 * 2 ^ j = pow-succ' 2 j in
    let half : 2 ^ suc j / 2 ≡ 2 ^ j = omega arith in
    bit_next (2 ^ suc j) k ∙ ap (λ (y : ℕ). bit_of y k) half ∙ bit_power j k ∙ sym (eqb-suc-suc k j)

pub bit_set_lem : (x j k : ℕ) → bit_of (set_bit x j) k ≡ bit_of x k || eqb k j
unfolding set_bit
bit_set_lem x j k = bit_or_lem k x (2 ^ j) ∙ ap (λ v. bit_of x k || v) (bit_power j k)

-- A number of n bits still is one.
pub set_below : (n x j : ℕ) → x < 2 ^ n → j < n → set_bit x j < 2 ^ n
unfolding set_bit
set_below n x j small inside = or_lt n x (2 ^ j) small (pow-lt inside)

-- What the code stores: the shifted bit is not cut off, since it lies in the width.
pub set_stored : (width x j : ℕ) → j < width → bit_or x ((1 * 2 ^ j) % 2 ^ width) ≡ set_bit x j
unfolding set_bit
set_stored width x j inside = ap (bit_or x) (ap (λ (y : ℕ). y % 2 ^ width) (one-mul (2 ^ j)) ∙ mod-eq_of_lt (pow-lt inside))
