-- Bytes that are zero, and bytes that are made so, from an offset on. Assumes nothing: these are definitions.
use Rattle.std.specs.Prelude.{◌≡◌, List, ℕ, zero, suc, ◌+◌, ◌≤◌, ◌<◌, get_or, set}

-- The bytes from an offset on, up to another, are zero.
abbrev pub Zero : ℕ → ℕ → List ℕ → Type 0
Zero from end s = (k : ℕ) → from ≤ k → k < end → get_or s k 0 ≡ 0

-- s with n zero bytes from the offset i on.
unfoldable pub with_zeros : List ℕ → ℕ → ℕ → List ℕ
with_zeros s i zero = s
with_zeros s i (suc n) = set (with_zeros s i n) (i + n) 0
