-- What opens at a place: the closing place of each piece that waits there is renewed, and nothing waits there any more.
-- Assumes nothing: these are definitions.
use Rattle.std.specs.Prelude.{Bool, cond, List, ℕ, zero, suc, ◌+◌, ◌*◌, eqb, set}
use Rattle.lent.specs.Numbers.{with_number}
use Rattle.lent.specs.Zeros.{with_zeros}
use Rattle.tables.specs.Layout.{room_for_pieces}
use Rattle.tables.specs.Reads.{span_in}
use Rattle.running.specs.Waiting.{never, slot_of}
use Rattle.running.specs.Layout.{flag_at, closing_at, slot_length}
use Rattle.running.specs.Reads.{flag_in, closing_place_in, slot_at, waits_in}

-- The span of an open gap: its window never closes.
abbrev pub open_span : ℕ
open_span = 65535

-- The closing place of a window that opens at a place: a span later, or never.
unfoldable pub closes_after : ℕ → ℕ → ℕ
closes_after span opened = cond (eqb span open_span) never (opened + span)

-- What a closing place is replaced by once a window opens: whatever it was, by that of the newer window, which is the later one.
abbrev pub replaced_by : ℕ → ℕ → ℕ
replaced_by was newer = newer

-- The memory with a closing place for piece p.
unfoldable pub with_closing : List ℕ → ℕ → ℕ → List ℕ
with_closing m p closes = with_number 8 m (closing_at + 8 * p) closes

-- The memory once a window of piece p opens at a place.
unfoldable pub window_opened : List ℕ → ℕ → List ℕ → ℕ → List ℕ
window_opened t place m p = with_closing m p (replaced_by (closing_place_in m p) (closes_after (span_in t p) place))

-- The memory once a window opens of each piece below n of which a test holds.
unfoldable pub windows_opened : List ℕ → ℕ → (ℕ → Bool) → List ℕ → ℕ → List ℕ
windows_opened t place test m zero = m
windows_opened t place test m (suc p) =
    let before : List ℕ = windows_opened t place test m p in
    cond (test p) (window_opened t place before p) before

-- The memory with slot q empty: no piece has its bit there, and the slot has no flag.
unfoldable pub slot_emptied : List ℕ → ℕ → List ℕ
slot_emptied m q = set (with_zeros m (slot_at q) slot_length) (flag_at + q) 0

-- The memory once the windows that wait in the slot of a place have opened there. A slot without its flag has no bit, so
-- nothing opens.
unfoldable pub slot_opened : List ℕ → List ℕ → ℕ → List ℕ
slot_opened t m place =
    let q : ℕ = slot_of place in
    cond (eqb (flag_in m q) 0) m (slot_emptied (windows_opened t place (waits_in m q) m room_for_pieces) q)
