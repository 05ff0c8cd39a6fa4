-- Running memory while the first pieces are set to wait. Assumes nothing: these are definitions.
use Rattle.std.specs.Prelude.{◌≡◌, Bool, ◌&&◌, List, ℕ, ◌<◌, ltb, eqb, get_or}
use Rattle.lent.specs.Numbers.{Bytes}
use Rattle.tables.specs.Layout.{room_for_pieces}
use Rattle.tables.specs.Reads.{first_in}
use Rattle.running.specs.Waiting.{slots}
use Rattle.running.specs.Reads.{WholeRunning, closing_place_in, waits_in}
use Rattle.running.specs.Held.{Flagged}
use Rattle.window.specs.Waiting.{slot_from}
use Rattle.window.specs.Places.{Elsewhere}

-- Piece p is one of the pieces below n and the first of its phrase, and its window, which begins at place 0, opens at a place of slot q.
unfoldable pub starts_in : List ℕ → ℕ → ℕ → ℕ → Bool
starts_in t n q p = ltb p n && (first_in t p && eqb q (slot_from t p 0))

-- The first pieces below n wait in the memory m, and nothing else does; no window has opened. Told by the zeroed memory.
pub record Starting (t : List ℕ) (n : ℕ) (zeroed m : List ℕ) : Type 0 where
  pub whole : WholeRunning m
  pub closes : (p : ℕ) → p < room_for_pieces → closing_place_in m p ≡ 0
  pub waiting : (q p : ℕ) → q < slots → p < room_for_pieces → waits_in m q p ≡ starts_in t n q p
  pub flags : Flagged m
  pub elsewhere : (i : ℕ) → Elsewhere i → get_or m i 0 ≡ get_or zeroed i 0
  pub bytes : Bytes zeroed → Bytes m
