-- What is read from running memory, field by field, whatever its bytes are. Assumes nothing: these are definitions.
use Rattle.std.specs.Prelude.{Bool, List, ℕ, ◌+◌, ◌*◌, ◌/◌, ◌%◌, ◌≤◌, length, get_or}
use Rattle.lent.specs.Numbers.{number_at}
use Rattle.bits.specs.Bits.{bit_of}
use Rattle.running.specs.Layout.{flag_at, closing_at, ring_at, slot_length}

-- The lent bytes hold running memory of the published size. The number stands here itself, so that arithmetic sees it.
abbrev pub WholeRunning : List ℕ → Type 0
WholeRunning m = 10528 ≤ length m

-- The flag of slot q: 0 where the slot has no bit.
abbrev pub flag_in : List ℕ → ℕ → ℕ
flag_in m q = get_or m (flag_at + q) 0

-- The closing place of piece p: 0 where no window of it has opened.
abbrev pub closing_place_in : List ℕ → ℕ → ℕ
closing_place_in m p = number_at 8 m (closing_at + 8 * p)

-- Where slot q begins, and where in it the byte with the bit of piece p stands.
abbrev pub slot_at : ℕ → ℕ
slot_at q = ring_at + slot_length * q

abbrev pub bit_at : ℕ → ℕ → ℕ
bit_at q p = slot_at q + p / 8

-- Piece p waits in slot q: its bit there is set.
unfoldable pub waits_in : List ℕ → ℕ → ℕ → Bool
waits_in m q p = bit_of (get_or m (bit_at q p) 0) (p % 8)
