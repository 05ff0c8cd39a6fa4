-- Numbers of n bytes at an offset of a list of bytes, read and written, low byte first or high byte first.
-- Assumes nothing: these are definitions.
use Rattle.std.specs.Prelude.{◌⊎◌, List, [], ◌∷◌, reverse, ℕ, zero, suc, ◌+◌, ◌*◌, ◌/◌, ◌%◌, ◌≤◌, ◌<◌, get_or, set}

-- Every element is a byte.
abbrev pub Bytes : List ℕ → Type 0
Bytes s = (k : ℕ) → get_or s k 0 < 256

-- The n bytes of s from the offset i on.
unfoldable pub bytes_at : ℕ → List ℕ → ℕ → List ℕ
bytes_at zero s i = []
bytes_at (suc n) s i = get_or s i 0 ∷ bytes_at n s (i + 1)

-- s with the elements bs from the offset i on: bytes, or the numbers of a room.
unfoldable pub with_bytes : List ℕ → ℕ → List ℕ → List ℕ
with_bytes s i [] = s
with_bytes s i (b ∷ bs) = with_bytes (set s i b) (i + 1) bs

-- The number whose bytes are bs, low byte first.
unfoldable pub low_first : List ℕ → ℕ
low_first [] = 0
low_first (b ∷ bs) = b + 256 * low_first bs

-- The number whose bytes are bs, high byte first: read from the other end, the low byte comes first.
unfoldable pub high_first : List ℕ → ℕ
unfolding low_first
high_first bs = low_first (reverse bs)

-- The n lowest bytes of v, low byte first.
unfoldable pub low_bytes : ℕ → ℕ → List ℕ
low_bytes zero v = []
low_bytes (suc n) v = v % 256 ∷ low_bytes n (v / 256)

-- The n lowest bytes of v, high byte first.
unfoldable pub high_bytes : ℕ → ℕ → List ℕ
unfolding low_bytes
high_bytes n v = reverse (low_bytes n v)

-- The number of n bytes at the offset i of s, low byte first.
unfoldable pub number_at : ℕ → List ℕ → ℕ → ℕ
unfolding bytes_at low_first
number_at n s i = low_first (bytes_at n s i)

-- The same, high byte first.
unfoldable pub high_number_at : ℕ → List ℕ → ℕ → ℕ
unfolding bytes_at high_first
high_number_at n s i = high_first (bytes_at n s i)

-- s with the n lowest bytes of v at the offset i, low byte first.
unfoldable pub with_number : ℕ → List ℕ → ℕ → ℕ → List ℕ
unfolding with_bytes low_bytes
with_number n s i v = with_bytes s i (low_bytes n v)

-- The same, high byte first.
unfoldable pub with_high_number : ℕ → List ℕ → ℕ → ℕ → List ℕ
unfolding with_bytes high_bytes
with_high_number n s i v = with_bytes s i (high_bytes n v)

-- The m bytes from the offset j on and the n bytes from the offset i on have none in common.
abbrev pub Apart : ℕ → ℕ → ℕ → ℕ → Type 0
Apart j m i n = (j + m ≤ i) ⊎ (i + n ≤ j)
