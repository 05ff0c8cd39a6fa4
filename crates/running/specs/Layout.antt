-- The running memory of a book after some bytes: every byte of it, region by region. Assumes nothing: these are definitions.
use Rattle.std.specs.Prelude.{Bool, cond, List, [], ◌∷◌, ℕ, zero, suc, ◌+◌, ◌*◌, ◌/◌, ◌%◌, length}
use Rattle.meaning.specs.Books.{Book}
use Rattle.meaning.specs.Automaton.{is_state, after}
use Rattle.numbering.specs.States.{number_in}
use Rattle.tables.specs.Regions.{Region}
use Rattle.tables.specs.Spots.{spot_at, spot_count}
use Rattle.tables.specs.Layout.{number, region, always, up_to, book_mark, room_for_pieces}
use Rattle.running.specs.Waiting.{slots, closing_of, waits, some_below}

-- The published size.
unfoldable pub running_size : ℕ
running_size = 10528

-- ── Where each region begins ──

abbrev pub tag_at : ℕ
tag_at = 0

abbrev pub state_at : ℕ
state_at = 8

abbrev pub spare_at : ℕ
spare_at = 10

abbrev pub place_at : ℕ
place_at = 16

abbrev pub mark_at : ℕ
mark_at = 24

abbrev pub flag_at : ℕ
flag_at = 32

abbrev pub closing_at : ℕ
closing_at = 288

abbrev pub ring_at : ℕ
ring_at = 2336

-- How many bytes a slot of the ring has: a bit for each piece.
abbrev pub slot_length : ℕ
slot_length = 32

-- ── What the entries are ──

-- The first bytes of begun running memory; they are never zero.
unfoldable pub running_tag : ℕ
running_tag = 0x31304e4e55525f5f

-- 128 where some piece waits in the slot, else 0.
unfoldable pub flag_of : Book → List ℕ → ℕ → ℕ
unfolding some_below waits
flag_of book x q = cond (some_below (waits book x q) room_for_pieces) 128 0

-- The closing place of piece p of the book.
unfoldable pub closing_in : Book → List ℕ → ℕ → ℕ
unfolding closing_of
closing_in book x p = closing_of (spot_at book p) x

-- A number with a bit for each of n tests, the first one lowest.
unfoldable pub bits : ℕ → (ℕ → Bool) → ℕ
bits zero test = 0
bits (suc n) test = cond (test 0) 1 0 + 2 * bits n (λ j. test (suc j))

-- Byte k of the ring: in its slot, a bit for each of eight pieces, set where the piece waits.
unfoldable pub ring_of : Book → List ℕ → ℕ → ℕ
unfolding bits waits
ring_of book x k = bits 8 (λ j. waits book x (k / slot_length) (8 * (k % slot_length) + j))

-- ── The layout ──

-- One table: where a region begins, how many entries it has, and of each entry how many bytes and what they say.
unfoldable pub running_layout : Book → List ℕ → List Region
running_layout book x =
    region tag_at 1 (number 8 (always running_tag) ∷ [])
    ∷ region state_at 1 (number 2 (always (number_in book (after (is_state book) x))) ∷ [])
    ∷ region spare_at 1 (number 6 (always 0) ∷ [])
    ∷ region place_at 1 (number 8 (always (length x)) ∷ [])
    ∷ region mark_at 1 (number 8 (always (book_mark book)) ∷ [])
    ∷ region flag_at slots (number 1 (flag_of book x) ∷ [])
    ∷ region closing_at room_for_pieces (number 8 (up_to (spot_count book) (closing_in book x)) ∷ [])
    ∷ region ring_at (slots * slot_length) (number 1 (ring_of book x) ∷ [])
    ∷ []
