-- A number written at a place is read back there and changes no other: what holds of bytes holds of the number that they make.
-- Assumes nothing.
use mathlib.Core.Path.{◌≡◌, sym, ap, ◌∙◌}
use mathlib.Core.List.{List, [], ◌∷◌}
use Prim.Native.Nat.{ℕ, ◌+◌, ◌*◌, ◌/◌, ◌%◌, ◌^◌, ◌≤◌, ◌<◌}
use native.Mathlib.Nat.{mod-add-div, mod-lt, one-le-pow}
use lib.Dec.{lit<}
use lib.ListN.{length, get_or, set}
use Rattle.lent.specs.Numbers.{Bytes, bytes_at, with_bytes, low_first, high_first, low_bytes, high_bytes}
use Rattle.lent.specs.Numbers.{number_at, high_number_at, with_number, with_high_number, Apart}
use Rattle.lent.proofs.Bytes.{length_bytes_at, length_with_bytes, bytes_bytes_at, bytes_agree, bytes_split}
use Rattle.lent.proofs.Bytes.{byte_apart, byte_written, bytes_apart, bytes_written, bytes_kept, with_bytes_split}
use Rattle.lent.proofs.Orders.{length_low_bytes, length_high_bytes, low_byte, low_first_lem, high_first_lem, low_bytes_lem, high_bytes_lem}
use Rattle.lent.proofs.Orders.{low_below, high_below, low_first_split, low_bytes_split}

pub length_with_number : (n : ℕ) (s : List ℕ) (i v : ℕ) → length (with_number n s i v) ≡ length s
unfolding with_number
length_with_number n s i v = length_with_bytes s i (low_bytes n v)

pub length_with_high_number : (n : ℕ) (s : List ℕ) (i v : ℕ) → length (with_high_number n s i v) ≡ length s
unfolding with_high_number
length_with_high_number n s i v = length_with_bytes s i (high_bytes n v)

-- What was written is read back.
module _ (n : ℕ) (s : List ℕ) (i v : ℕ) (room : i + n ≤ length s) where
  back : (bs : List ℕ) → length bs ≡ n → bytes_at n (with_bytes s i bs) i ≡ bs
  back bs e = rw e at (bytes_written s i bs (rw e room))

  pub number_written : v < 256 ^ n → number_at n (with_number n s i v) i ≡ v
  unfolding number_at with_number
  number_written small = ap low_first (back (low_bytes n v) (length_low_bytes n v)) ∙ low_first_lem n v small

  pub high_number_written : v < 256 ^ n → high_number_at n (with_high_number n s i v) i ≡ v
  unfolding high_number_at with_high_number
  high_number_written small = ap high_first (back (high_bytes n v) (length_high_bytes n v)) ∙ high_first_lem n v small

  -- The byte k of what was written.
  pub number_byte_written : (k : ℕ) → k < n → get_or (with_number n s i v) (i + k) 0 ≡ v / 256 ^ k % 256
  unfolding with_number
  number_byte_written k small = byte_written s i (low_bytes n v) k (rw length_low_bytes room) (rw length_low_bytes small) ∙ low_byte n v k small

-- A byte or a number apart from what was written is as it was.
pub number_byte_apart : (n : ℕ) (s : List ℕ) (i v j : ℕ) → Apart j 1 i n → get_or (with_number n s i v) j 0 ≡ get_or s j 0
unfolding with_number
number_byte_apart n s i v j h = byte_apart s i (low_bytes n v) j (rw length_low_bytes h)

pub high_number_byte_apart : (n : ℕ) (s : List ℕ) (i v j : ℕ) → Apart j 1 i n → get_or (with_high_number n s i v) j 0 ≡ get_or s j 0
unfolding with_high_number
high_number_byte_apart n s i v j h = byte_apart s i (high_bytes n v) j (rw length_high_bytes h)

pub number_apart : (m n : ℕ) (s : List ℕ) (i v j : ℕ) → Apart j m i n → number_at m (with_number n s i v) j ≡ number_at m s j
unfolding number_at with_number
number_apart m n s i v j h = ap low_first (bytes_apart m s i (low_bytes n v) j (rw length_low_bytes h))

pub number_apart_byte : (m : ℕ) (s : List ℕ) (i b j : ℕ) → Apart j m i 1 → number_at m (set s i b) j ≡ number_at m s j
unfolding number_at with_bytes
number_apart_byte m s i b j h = ap low_first (bytes_apart m s i (b ∷ []) j h)

-- Every element is still a byte.
pub number_bytes_kept : (n : ℕ) (s : List ℕ) (i v : ℕ) → Bytes s → Bytes (with_number n s i v)
unfolding with_number
number_bytes_kept n s i v h = bytes_kept s i (low_bytes n v) h (low_bytes_lem n v)

pub high_number_bytes_kept : (n : ℕ) (s : List ℕ) (i v : ℕ) → Bytes s → Bytes (with_high_number n s i v)
unfolding with_high_number
high_number_bytes_kept n s i v h = bytes_kept s i (high_bytes n v) h (high_bytes_lem n v)

-- A number of n bytes lies below 256 ^ n.
pub number_below : (n : ℕ) (s : List ℕ) (i : ℕ) → Bytes s → number_at n s i < 256 ^ n
unfolding number_at
number_below n s i h = rw length_bytes_at at (low_below (bytes_at n s i) (bytes_bytes_at n s i h))

pub high_number_below : (n : ℕ) (s : List ℕ) (i : ℕ) → Bytes s → high_number_at n s i < 256 ^ n
unfolding high_number_at
high_number_below n s i h = rw length_bytes_at at (high_below (bytes_at n s i) (bytes_bytes_at n s i h))

-- Lists that agree in the n bytes from i on have the same number there.
module _ (n : ℕ) (s t : List ℕ) (i : ℕ) (agree : (k : ℕ) → i ≤ k → k < i + n → get_or s k 0 ≡ get_or t k 0) where
  pub number_agree : number_at n s i ≡ number_at n t i
  unfolding number_at
  number_agree = ap low_first (bytes_agree n s t i agree)

  pub high_number_agree : high_number_at n s i ≡ high_number_at n t i
  unfolding high_number_at
  high_number_agree = ap high_first (bytes_agree n s t i agree)

-- A number of m + n bytes is its low part and its high part, each at its own place.
pub number_parts : (m n : ℕ) (s : List ℕ) (i : ℕ) → number_at (m + n) s i ≡ number_at m s i + 256 ^ m * number_at n s (i + m)
unfolding number_at
number_parts m n s i =
    ap low_first (bytes_split m n s i)
    ∙ low_first_split (bytes_at m s i) (bytes_at n s (i + m))
    ∙ ap (λ (l : ℕ). low_first (bytes_at m s i) + 256 ^ l * low_first (bytes_at n s (i + m))) (length_bytes_at m s i)

pub with_number_parts
    : (m n : ℕ) (s : List ℕ) (i v : ℕ)
    → with_number (m + n) s i v ≡ with_number n (with_number m s i (v % 256 ^ m)) (i + m) (v / 256 ^ m)
unfolding with_number
with_number_parts m n s i v =
    let low : ℕ = v % 256 ^ m in
    let high : ℕ = v / 256 ^ m in
    ap (λ (w : ℕ). with_bytes s i (low_bytes (m + n) w)) (sym (mod-add-div v (256 ^ m)))
    ∙ ap (with_bytes s i) (low_bytes_split m n low high (mod-lt v (one-le-pow m 256 (lit< tt))))
    ∙ with_bytes_split s i (low_bytes m low) (low_bytes n high)
    ∙ ap (λ (l : ℕ). with_bytes (with_bytes s i (low_bytes m low)) (i + l) (low_bytes n high)) (length_low_bytes m low)

-- The low part stored, and the high part stored behind it, are the whole number stored.
pub parts_stored
    : (m n : ℕ) (s s₁ s₂ : List ℕ) (i v : ℕ)
    → s₁ ≡ with_number m s i (v % 256 ^ m) → s₂ ≡ with_number n s₁ (i + m) (v / 256 ^ m) → s₂ ≡ with_number (m + n) s i v
parts_stored m n s s₁ s₂ i v low high =
    high ∙ ap (λ (t : List ℕ). with_number n t (i + m) (v / 256 ^ m)) low ∙ sym (with_number_parts m n s i v)
