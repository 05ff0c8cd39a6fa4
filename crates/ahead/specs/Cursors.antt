-- Four cursors, one over each quarter of a stretch of a part, and one turn of all four. Assumes nothing: these are definitions.
use Rattle.std.specs.Prelude.{true, ◌≡◌, List, ℕ, zero, suc, ◌+◌, ◌*◌, ◌≤◌, ◌<◌, length, get_or, set}
use Rattle.tables.specs.Layout.{room_for_states}
use Rattle.tables.specs.Reads.{Whole, state_count_in, dense_in, column_in}
use Rattle.seeking.specs.Quick.{sought_in, quick_in}
use Rattle.ahead.specs.Columns.{columns_fit}

-- The cursor over a quarter, the first being 0.
abbrev pub cursor : List ℕ → ℕ → ℕ
cursor cursors k = get_or cursors k 0

-- All four are below a number.
pub record Below (limit : ℕ) (cursors : List ℕ) : Type 0 where
  pub each : (k : ℕ) → k < 4 → cursor cursors k < limit

-- The column of a byte, in which a cell for each dense state fits: so the memory has that cell.
pub record ColumnOf (t : List ℕ) (dense byte column : ℕ) : Type 0 where
  pub tables : Whole t
  pub small : byte < 256
  pub is : column ≡ column_in t byte
  pub fits : column + 2 * dense ≤ 49152

-- What holds before one turn: the counts of the tables are in range and their columns fit, the cursors are states, and each quarter has its byte.
pub record TurnReady (t part : List ℕ) (states dense at quarter : ℕ) (from : List ℕ) : Type 0 where
  pub counted : states ≡ state_count_in t
  pub rows : dense ≡ dense_in t
  pub few_states : states ≤ room_for_states
  pub some_dense : 1 ≤ dense
  pub few_dense : dense ≤ states
  pub columns : columns_fit t ≡ true
  pub inside : Below states from
  pub within : at + 3 * quarter < length part

-- The next byte of a quarter, where the first quarter has it at a place.
abbrev pub byte_of : List ℕ → ℕ → ℕ → ℕ → ℕ
byte_of part at quarter k = get_or part (at + k * quarter) 0

-- The column of the byte of each quarter.
pub record Columned (t part : List ℕ) (dense at quarter : ℕ) (columns : List ℕ) : Type 0 where
  pub each : (k : ℕ) → k < 4 → ColumnOf t dense (byte_of part at quarter k) (get_or columns k 0)

-- What is found for the byte of each quarter.
pub record Found (t part : List ℕ) (states dense at quarter : ℕ) (from to : List ℕ) : Type 0 where
  pub each : (k : ℕ) → k < 4 → cursor to k ≡ sought_in t states dense (cursor from k) (byte_of part at quarter k)

-- The next state by the byte of each quarter.
pub record Turned (t part : List ℕ) (states dense at quarter : ℕ) (from to : List ℕ) : Type 0 where
  pub each : (k : ℕ) → k < 4 → cursor to k ≡ quick_in t states dense (cursor from k) (byte_of part at quarter k)
  pub inside : Below states to

-- The first so many of the four numbers stand one after the other.
unfoldable pub with_first : List ℕ → ℕ → List ℕ → ℕ → List ℕ
with_first ahead at cursors zero = ahead
with_first ahead at cursors (suc n) = set (with_first ahead at cursors n) (at + n) (cursor cursors n)

-- All four do.
abbrev pub with_four : List ℕ → ℕ → List ℕ → List ℕ
with_four ahead at cursors = with_first ahead at cursors 4
