-- A window that has not opened yet waits its turn, in the slot of the place at which it opens. Assumes nothing: these are definitions.
use Rattle.std.specs.Prelude.{List, ℕ, ◌+◌, ◌%◌, get_or, set}
use Rattle.bits.specs.Bits.{set_bit}
use Rattle.tables.specs.Reads.{delay_in}
use Rattle.running.specs.Waiting.{slot_of}
use Rattle.running.specs.Layout.{flag_at}
use Rattle.running.specs.Reads.{bit_at}

-- The flag of a slot that has a bit.
abbrev pub flagged : ℕ
flagged = 128

-- The memory with piece p waiting in slot q: its bit is set there, and so is the slot's flag.
unfoldable pub with_waiting : List ℕ → ℕ → ℕ → List ℕ
with_waiting m q p = set (set m (bit_at q p) (set_bit (get_or m (bit_at q p) 0) (p % 8))) (flag_at + q) flagged

-- The slot in which piece p waits from a place at which the piece before it ended (0 for a first piece): that of the place at which its
-- window opens, a delay later.
abbrev pub slot_from : List ℕ → ℕ → ℕ → ℕ
slot_from t p place = slot_of (place + delay_in t p)

-- The memory with piece p waiting there, beside all that waits already.
unfoldable pub with_waiting_from : List ℕ → List ℕ → ℕ → ℕ → List ℕ
with_waiting_from t m p place = with_waiting m (slot_from t p place) p
