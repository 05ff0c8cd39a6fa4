-- What is kept for a piece between bytes: the closing place of the newest window that has opened, and the places at which
-- later windows open. Assumes nothing: these are definitions.
use Rattle.std.specs.Prelude.{Bool, false, ◌&&◌, ◌||◌, List, ℕ, zero, suc, ◌+◌, ◌-◌, ◌%◌, leb, ltb, length}
use Rattle.std.proofs.Math.Option.{Option, none, some}
use Rattle.meaning.specs.Books.{Gap, bounded, open_from, Piece, Book}
use Rattle.meaning.specs.Matching.{ends}
use Rattle.meaning.specs.Windows.{newest, delay, opens_at}
use Rattle.tables.specs.Spots.{Spot, spot_at, spot_count}

-- ── Closing places ──

-- The closing place of a window that never closes: the largest number of 8 bytes.
unfoldable pub never : ℕ
never = 18446744073709551615

-- The last place at which a piece may end whose window opened at a place.
unfoldable pub closes_at : Gap → ℕ → ℕ
unfolding never
closes_at (bounded least most) opened = opened + (most - least)
closes_at (open_from least) opened = never

-- The closing place of a piece's newest window, told by the end from which it began; 0 where none has opened yet.
unfoldable pub closing_from : Piece → Option ℕ → ℕ
unfolding closes_at opens_at
closing_from piece none = 0
closing_from piece (some previous) = closes_at piece.gap (opens_at piece previous)

-- The closing place of a piece after the bytes x.
unfoldable pub closing_of : Spot → List ℕ → ℕ
unfolding closing_from newest
closing_of spot x = closing_from spot.piece (newest length x spot.before spot.piece (length x))

-- ── Waiting windows ──

-- A window of the piece opens at a place, from an end of the pieces before it that lies in the bytes x.
unfoldable pub opens_from : Spot → List ℕ → ℕ → Bool
unfolding delay ends
opens_from spot x place =
    leb (delay spot.piece) place
    && (leb place (length x + delay spot.piece)
    && ends length x 0 spot.before (place - delay spot.piece))

-- Places are kept in a ring of 256 slots, each in the slot of its remainder: a window opens at most 256 places after an end.
abbrev pub slots : ℕ
slots = 256

-- The slot of a place.
abbrev pub slot_of : ℕ → ℕ
slot_of place = place % slots

-- The slot in which a piece waits from an end of the pieces before it: that of the place at which its window opens.
unfoldable pub slot_for : Piece → ℕ → ℕ
unfolding opens_at
slot_for piece previous = slot_of (opens_at piece previous)

-- The one place in the next 256 after i that has its slot at q.
unfoldable pub place_in : ℕ → ℕ → ℕ
place_in i q = i + 1 + (q + 255 - i % slots) % slots

-- Piece p of the book waits in slot q after the bytes x.
unfoldable pub waits : Book → List ℕ → ℕ → ℕ → Bool
unfolding opens_from place_in spot_at spot_count
waits book x q p = ltb p (spot_count book) && opens_from (spot_at book p) x (place_in (length x) q)

-- A test holds of some number below n.
unfoldable pub some_below : (ℕ → Bool) → ℕ → Bool
some_below test zero = false
some_below test (suc n) = test n || some_below test n
