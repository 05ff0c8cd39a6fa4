-- What is kept between bytes as two functions, the closing place of each piece and which pieces wait in each slot, and one byte of it.
-- Said over any two such functions, so that they may be read from lent bytes. Assumes nothing: these are definitions.
use Rattle.std.specs.Prelude.{◌≡◌, Bool, ◌&&◌, ◌||◌, List, [], ◌∷◌, ltb}
use Rattle.std.proofs.Math.Bool.{false, not, cond}
use Prim.Native.Nat.{ℕ, zero, suc, ◌<◌}
use Rattle.std.proofs.Math.Dec.{leb, eqb}
use Rattle.meaning.specs.Books.{Phrase, Book}
use Rattle.meaning.specs.Reports.{Report, report_of}
use Rattle.tables.specs.Spots.{none_left, spot_at, spot_count}
use Rattle.tables.specs.Layout.{up_to, room_for_pieces}
use Rattle.running.specs.Waiting.{slots, slot_of, closes_at, slot_for, waits, some_below}
use Rattle.running.specs.Layout.{closing_in}

-- The two functions are the book's after the bytes x, for every slot and for every piece there is room for.
pub record Kept (book : Book) (x : List ℕ) (closing : ℕ → ℕ) (waiting : ℕ → ℕ → Bool) : Type 0 where
  pub close : (p : ℕ) → p < room_for_pieces → closing p ≡ up_to (spot_count book) (closing_in book x) p
  pub wait : (q p : ℕ) → q < slots → p < room_for_pieces → waiting q p ≡ waits book x q p

module _ (book : Book) (place : ℕ) (closing : ℕ → ℕ) (waiting : ℕ → ℕ → Bool) where
  -- The slot of the place is opened: a piece that waits there has a window now, and its closing place replaces the old one.
  unfoldable pub closing_after : ℕ → ℕ
  unfolding closes_at
  closing_after p = cond (waiting (slot_of place) p) (closes_at (spot_at book p).piece.gap place) (closing p)

  -- The slot is emptied before the pieces that end at the place are looked at, so that a delay of 256 fits.
  unfoldable pub waiting_on : ℕ → ℕ → Bool
  waiting_on q p = cond (eqb q (slot_of place)) false (waiting q p)

  -- Given whose keyword ends at the place.
  module _ (ending : ℕ → Bool) where
    -- The piece ends at the place: its keyword does, and its newest window is not past.
    unfoldable pub ends_here : ℕ → Bool
    unfolding closing_after
    ends_here p = ending p && leb place (closing_after p)

    -- A window of piece p begins: the piece before it ends at the place, and is not the last of its phrase.
    unfoldable pub begins : ℕ → Bool
    unfolding ends_here
    begins zero = false
    begins (suc p) = not (spot_at book p).last && ends_here p

    -- Such a piece waits, beside what waits already.
    unfoldable pub waiting_after : ℕ → ℕ → Bool
    unfolding waiting_on begins slot_for
    waiting_after q p = waiting_on q p || (begins p && eqb q (slot_for (spot_at book p).piece place))

    -- The phrase of rank j ends at the place: its last piece does.
    unfoldable pub marked : ℕ → Bool
    unfolding some_below ends_here
    marked j = some_below (λ p. (spot_at book p).last && (eqb (spot_at book p).rank j && ends_here p)) (spot_count book)

-- Before the first byte no window has opened, and each first piece of a phrase waits for its own, which begins at place 0.
unfoldable pub waiting_first : Book → ℕ → ℕ → Bool
unfolding none_left slot_for
waiting_first book q p =
    ltb p (spot_count book) && (none_left (spot_at book p).before && eqb q (slot_for (spot_at book p).piece 0))

-- The reports of a place, read off by rank: phrases from this rank on, of which those that are marked are reported.
unfoldable pub read_off : (ℕ → Bool) → ℕ → ℕ → List Phrase → List Report
read_off mark place j [] = []
read_off mark place j (phrase ∷ rest) =
    let later : List Report = read_off mark place (suc j) rest in
    cond (mark j) (report_of phrase place ∷ later) later
