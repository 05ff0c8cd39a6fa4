-- The four quarters looked up side by side, and one of them again. Assumes nothing: these are definitions.
use Rattle.std.specs.Prelude.{true, ◌≡◌, List, ℕ, ◌+◌, ◌-◌, ◌*◌, ◌≤◌, ◌<◌, length, get_or}
use Rattle.tables.specs.Layout.{room_for_states}
use Rattle.tables.specs.Reads.{state_count_in, dense_in}
use Rattle.seeking.specs.Foreseen.{after_from}
use Rattle.ahead.specs.Columns.{columns_fit}
use Rattle.ahead.specs.Cursors.{cursor, Below}

-- Every fourth number, for so many bytes of quarter k, is the state that the byte leads to, where the quarter begins at a byte of the part and in a state.
pub record Listed (t part : List ℕ) (from state count k : ℕ) (ahead : List ℕ) : Type 0 where
  pub each : (j : ℕ) → j < count → get_or ahead (4 * j + k) 0 ≡ after_from t part from state (j + 1)

-- The numbers from one of them on are as they were.
pub record KeptFrom (from : ℕ) (before after : List ℕ) : Type 0 where
  pub each : (i : ℕ) → from ≤ i → get_or after i 0 ≡ get_or before i 0

-- What holds before so many turns: the counts of the tables are in range and their columns fit, and part and numbers have room for the turns.
pub record RunReady (t part : List ℕ) (first quarter count : ℕ) (ahead : List ℕ) : Type 0 where
  pub few_states : state_count_in t ≤ room_for_states
  pub some_dense : 1 ≤ dense_in t
  pub few_dense : dense_in t ≤ state_count_in t
  pub columns : columns_fit t ≡ true
  pub within : first + 3 * quarter + count ≤ length part
  pub room : 4 * count ≤ length ahead

-- So many turns of the four cursors: where each has come, and what is listed of its quarter. The numbers behind these are as they were.
pub record Ran (t part : List ℕ) (first quarter count : ℕ) (start end : List ℕ) (before after : List ℕ) : Type 0 where
  pub ended : (k : ℕ) → k < 4 → cursor end k ≡ after_from t part (first + k * quarter) (cursor start k) count
  pub listed : (k : ℕ) → k < 4 → Listed t part (first + k * quarter) (cursor start k) count k after
  pub inside : Below (state_count_in t) end
  pub behind : KeptFrom (4 * count) before after
  pub long : length after ≡ length before

-- The guess for a quarter that begins at a byte of the part: the state that the 32 bytes before that byte lead to from the root.
unfoldable pub guess : List ℕ → List ℕ → ℕ → ℕ
guess t part from = after_from t part (from - 32) 0 32

-- Where the cursors begin: the first in the state at hand, each other one in the guess for its quarter. The first 128 numbers are the states on the way to
-- the guesses, and those of a fourth walk, over the last 32 bytes of the fourth quarter. The numbers behind are as they were.
pub record Guessed (t part : List ℕ) (first quarter state : ℕ) (start : List ℕ) (before after : List ℕ) : Type 0 where
  pub at_hand : cursor start 0 ≡ state
  pub second : cursor start 1 ≡ guess t part (first + quarter)
  pub third : cursor start 2 ≡ guess t part (first + 2 * quarter)
  pub fourth : cursor start 3 ≡ guess t part (first + 3 * quarter)
  pub inside : Below (state_count_in t) start
  pub walks : (k : ℕ) → k < 4 → Listed t part (first + (k + 1) * quarter - 32) 0 32 k after
  pub behind : KeptFrom 128 before after
  pub long : length after ≡ length before

-- What holds before quarter k, which begins at a byte of the part, is looked up alone.
pub record AgainReady (t part : List ℕ) (from quarter k state : ℕ) (ahead : List ℕ) : Type 0 where
  pub few_states : state_count_in t ≤ room_for_states
  pub some_dense : 1 ≤ dense_in t
  pub few_dense : dense_in t ≤ state_count_in t
  pub columns : columns_fit t ≡ true
  pub quarters : k < 4
  pub inside : state < state_count_in t
  pub within : from + quarter ≤ length part
  pub room : 4 * quarter ≤ length ahead

-- Quarter k is listed from the state on, it ends in a state, and the numbers of the other quarters, and those behind, are as they were.
pub record Mended (t part : List ℕ) (from quarter k state end : ℕ) (before after : List ℕ) : Type 0 where
  pub ended : end ≡ after_from t part from state quarter
  pub listed : Listed t part from state quarter k after
  pub others : (l j : ℕ) → l < 4 → (l ≡ k → ⊥) → get_or after (4 * j + l) 0 ≡ get_or before (4 * j + l) 0
  pub behind : KeptFrom (4 * quarter) before after
  pub long : length after ≡ length before

-- What holds before four quarters are looked up: the counts of the tables are in range and their columns fit, the state is one of theirs, and part and
-- numbers have room for the quarters.
pub record LookReady (t part : List ℕ) (first quarter state : ℕ) (ahead : List ℕ) : Type 0 where
  pub few_states : state_count_in t ≤ room_for_states
  pub some_dense : 1 ≤ dense_in t
  pub few_dense : dense_in t ≤ state_count_in t
  pub columns : columns_fit t ≡ true
  pub inside : state < state_count_in t
  pub least : 32 ≤ quarter
  pub most : quarter ≤ 1024
  pub within : first + 4 * quarter ≤ length part
  pub short : length part < 4294967296
  pub room : 4 * quarter ≤ length ahead
