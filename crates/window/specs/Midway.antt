-- What the pieces whose keyword ends at a place come to, given their closing places. Assumes nothing: these are definitions.
use Rattle.std.specs.Prelude.{◌≡◌, Bool, not, ◌&&◌, List, ℕ, ◌+◌, ◌%◌, ◌<◌, leb, eqb, get_or}
use Rattle.lent.specs.Numbers.{Bytes}
use Rattle.tables.specs.Layout.{room_for_pieces}
use Rattle.tables.specs.Reads.{rank_in, last_in}
use Rattle.running.specs.Reads.{WholeRunning, closing_place_in}
use Rattle.running.specs.Held.{Flagged}
use Rattle.window.specs.Waiting.{slot_from}
use Rattle.window.specs.Ending.{Ended}
use Rattle.window.specs.Places.{Elsewhere}

module _ (t : List ℕ) (place : ℕ) (closing : ℕ → ℕ) where
  -- Piece p ends here and is not the last of its phrase, so that the next one waits: that is g, in slot q.
  unfoldable pub sets_waiting : ℕ → ℕ → ℕ → Bool
  sets_waiting q g p =
      leb place (closing p)
      && (not (last_in t p) && (eqb g ((p + 1) % room_for_pieces) && eqb q (slot_from t ((p + 1) % room_for_pieces) place)))

  -- Piece p ends here and is the last of its phrase, which is marked: that is the one of rank j.
  unfoldable pub sets_mark : ℕ → ℕ → Bool
  sets_mark j p = leb place (closing p) && (last_in t p && eqb j (rank_in t p))

  -- What holds while the pieces are looked at, told by the memory with which the place began.
  pub record Midway (began : List ℕ) (ended : Ended) : Type 0 where
    pub whole : WholeRunning ended.memory
    pub closes : (p : ℕ) → p < room_for_pieces → closing_place_in ended.memory p ≡ closing p
    pub flags : Flagged ended.memory
    pub elsewhere : (i : ℕ) → Elsewhere i → get_or ended.memory i 0 ≡ get_or began i 0
    pub bytes : Bytes began → Bytes ended.memory
