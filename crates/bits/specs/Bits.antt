-- The bits of a number, the lowest being bit 0. Assumes nothing: these are definitions.
use Rattle.std.specs.Prelude.{◌≡◌, Bool, true, false, ℕ, ◌/◌, ◌%◌, ◌^◌, ◌≤◌, ◌<◌, eqb, Option, Some, None}
use Rattle.std.specs.Int.Bits.{bit_or}

-- Bit j of a number is set.
unfoldable pub bit_of : ℕ → ℕ → Bool
bit_of x j = eqb (x / 2 ^ j % 2) 1

-- A number with bit j set, and its other bits as they were.
unfoldable pub set_bit : ℕ → ℕ → ℕ
set_bit x j = bit_or x (2 ^ j)

-- r is the first number from j on, and below n, of which a test holds; n where there is none.
pub record First (test : ℕ → Bool) (n j r : ℕ) : Type 0 where
  pub reached : j ≤ r
  pub within : r ≤ n
  pub passed : (k : ℕ) → j ≤ k → k < r → test k ≡ false
  pub found : r < n → test r ≡ true

-- What a search from j on, and below n, answers: the first number of which a test holds; none where there is none.
abbrev pub Finds : (ℕ → Bool) → ℕ → ℕ → Option ℕ → Type 0
Finds test n j None = First test n j n
Finds test n j (Some r) = First test n j r × (r < n)
