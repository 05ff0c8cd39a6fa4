-- The bytes of a number are its digits at the base 256: the lowest is the remainder, and the others are those of the quotient.
-- Assumes nothing.
use mathlib.Core.Path.{◌≡◌, refl, ap, ap₂, ◌∙◌}
use mathlib.Core.List.{List, [], ◌∷◌, ◌++◌, reverse, reverse_aux, reverse-reverse}
use Prim.Native.Nat.{ℕ, zero, suc, ◌+◌, ◌*◌, ◌/◌, ◌%◌, ◌^◌, ◌<◌}
use native.Mathlib.Nat.{zero-add, suc-add, mul_assoc, pow-suc, pow-succ', div-lt_iff_lt-mul, div-div-eq-div-mul}
use native.Mathlib.Omega.{arith}
use lib.Dec.{lit<}
use lib.ListN.{length, get_or, length-reverse}
use Rattle.lent.specs.Numbers.{Bytes, low_first, high_first, low_bytes, high_bytes}

pub length_low_bytes : (n v : ℕ) → length (low_bytes n v) ≡ n
unfolding low_bytes
length_low_bytes zero v = refl
length_low_bytes (suc n) v = ap suc (length_low_bytes n (v / 256))

pub length_high_bytes : (n v : ℕ) → length (high_bytes n v) ≡ n
unfolding high_bytes
length_high_bytes n v = length-reverse (low_bytes n v) ∙ length_low_bytes n v

-- The byte k of a number.
pub low_byte : (n v k : ℕ) → k < n → get_or (low_bytes n v) k 0 ≡ v / 256 ^ k % 256
unfolding low_bytes
low_byte zero v k small = absurd (omega arith)
low_byte (suc n) v zero small = omega arith
low_byte (suc n) v (suc k) small = rw (low_byte n (v / 256) k (omega arith), pow-succ', div-div-eq-div-mul v 256)

-- The second byte of a number of two bytes is its quotient, with no remainder to take.
pub second_byte : (v : ℕ) → v < 65536 → v / 256 % 256 ≡ v / 256
second_byte v small = omega arith

-- A number is that of its bytes.
pub low_first_lem : (n v : ℕ) → v < 256 ^ n → low_first (low_bytes n v) ≡ v
unfolding low_first low_bytes
low_first_lem zero v small = omega arith
low_first_lem (suc n) v small =
    let rest : low_first (low_bytes n (v / 256)) ≡ v / 256 = low_first_lem n (v / 256) ((div-lt_iff_lt-mul (lit< tt)).1 (rw pow-suc at small)) in
    omega arith

pub high_first_lem : (n v : ℕ) → v < 256 ^ n → high_first (high_bytes n v) ≡ v
unfolding high_first high_bytes
high_first_lem n v small = ap low_first (reverse-reverse (low_bytes n v)) ∙ low_first_lem n v small

-- Every byte of a number is a byte.
pub low_bytes_lem : (n v : ℕ) → Bytes (low_bytes n v)
unfolding low_bytes
low_bytes_lem zero v k = omega arith
low_bytes_lem (suc n) v zero = omega arith
low_bytes_lem (suc n) v (suc k) = low_bytes_lem n (v / 256) k

turned : (l r : List ℕ) → Bytes l → Bytes r → Bytes (reverse_aux l r)
turned [] r p q = q
turned (b ∷ l) r p q = turned l (b ∷ r) (λ k. p (suc k)) with_b
  where
    with_b : Bytes (b ∷ r)
    with_b zero = p 0
    with_b (suc k) = q k

pub bytes_reverse : (bs : List ℕ) → Bytes bs → Bytes (reverse bs)
bytes_reverse bs h = turned bs [] h (λ k. omega arith)

pub high_bytes_lem : (n v : ℕ) → Bytes (high_bytes n v)
unfolding high_bytes
high_bytes_lem n v = bytes_reverse (low_bytes n v) (low_bytes_lem n v)

-- A number of n bytes lies below 256 ^ n.
pub low_below : (bs : List ℕ) → Bytes bs → low_first bs < 256 ^ length bs
unfolding low_first
low_below [] h = omega arith
low_below (b ∷ bs) h =
    let rest : low_first bs < 256 ^ length bs = low_below bs (λ k. h (suc k)) in
    let first : b < 256 = h 0 in
    rw (pow-succ' 256 (length bs)) (omega arith)

pub high_below : (bs : List ℕ) → Bytes bs → high_first bs < 256 ^ length bs
unfolding high_first
high_below bs h = rw length-reverse at (low_below (reverse bs) (bytes_reverse bs h))

-- A number whose bytes are those of a low part and then those of a high part is the sum of both, each at its place.
pub low_first_split : (a b : List ℕ) → low_first (a ++ b) ≡ low_first a + 256 ^ length a * low_first b
unfolding low_first
low_first_split [] b = omega arith
low_first_split (c ∷ a) b =
    rw (low_first_split a b, pow-succ' 256 (length a), mul_assoc 256 (256 ^ length a) (low_first b)) (omega arith)

pub low_bytes_split : (m n a b : ℕ) → a < 256 ^ m → low_bytes (m + n) (a + 256 ^ m * b) ≡ low_bytes m a ++ low_bytes n b
unfolding low_bytes
low_bytes_split zero n a b small =
    let e : a + 1 * b ≡ b = omega arith in
    rw (zero-add, e)
low_bytes_split (suc m) n a b small =
    let part : 256 ^ suc m * b ≡ 256 * (256 ^ m * b) = rw (pow-succ', mul_assoc) in
    let first : (a + 256 ^ suc m * b) % 256 ≡ a % 256 = rw part (omega arith) in
    let rest : (a + 256 ^ suc m * b) / 256 ≡ a / 256 + 256 ^ m * b = rw part (omega arith) in
    let below : a / 256 < 256 ^ m = (div-lt_iff_lt-mul (lit< tt)).1 (rw pow-suc at small) in
    rw suc-add (ap₂ (λ (c : ℕ) (cs : List ℕ). c ∷ cs) first (ap (low_bytes (m + n)) rest ∙ low_bytes_split m n (a / 256) b below))
