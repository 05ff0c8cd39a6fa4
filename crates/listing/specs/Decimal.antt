-- Numbers in decimal, as bytes: first digit first, without leading zeros.
-- Assumes nothing: these are definitions.
use Rattle.std.specs.Prelude.{true, false, List, [], ◌∷◌, ◌++◌, ℕ, zero, suc, ◌+◌, ◌-◌, ◌*◌, ◌/◌, ◌%◌, ◌≤◌, ◌<◌, ltb, length, get_or}

-- The byte of the digit d: that of 0 is 48, and the others follow it.
abbrev pub digit : ℕ → ℕ
digit d = 48 + d

-- The digits of a number that has at most `before` digits before its last. A number below ten is one digit. Any other is the digits
-- of a tenth of it, and then its last digit.
unfoldable pub digits_up_to : ℕ → ℕ → List ℕ
digits_up_to zero n = digit n ∷ []
digits_up_to (suc before) n = elim (ltb n 10) [ true ↦ digit n ∷ [] | false ↦ digits_up_to before (n / 10) ++ digit (n % 10) ∷ [] ]

-- The digits of n, which has at most n digits before its last.
unfoldable pub digits : ℕ → List ℕ
unfolding digits_up_to
digits n = digits_up_to n n

-- ── Digits read back ──

-- A byte that is a digit's.
abbrev pub IsDigit : ℕ → Type 0
IsDigit b = (48 ≤ b) × (b < 58)

-- Every byte of a text is a digit's.
abbrev pub AllDigits : List ℕ → Type 0
AllDigits text = (k : ℕ) → k < length text → IsDigit (get_or text k 0)

-- The number that digits make behind the number n: one more digit makes it ten times what it was, and the digit more.
unfoldable pub value_after : ℕ → List ℕ → ℕ
value_after n [] = n
value_after n (b ∷ bs) = value_after (10 * n + (b - 48)) bs

-- The number that digits make.
unfoldable pub value_of : List ℕ → ℕ
unfolding value_after
value_of bs = value_after 0 bs
