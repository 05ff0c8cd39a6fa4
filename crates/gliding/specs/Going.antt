-- One byte of the quiet loop, as the code carries it along. Assumes nothing: these are definitions.
use Rattle.std.specs.Prelude.{◌≡◌, List, ℕ, ◌+◌, ◌*◌, ◌≤◌, ◌<◌}
use Rattle.tables.specs.Layout.{room_for_states}
use Rattle.tables.specs.Reads.{state_count_in, dense_in}
use Rattle.running.specs.Reads.{WholeRunning}
use Rattle.gliding.specs.Glide.{Gone, Glide}
use Rattle.gliding.specs.declared.Going.{Going}

-- How far bytes have been taken.
abbrev pub gone_to : Going → Gone
gone_to going = record { state = going.index; place = going.place.0; taken = going.taken; gains = going.gains }

abbrev pub going_of : Going → Glide
going_of going = record { gone = gone_to going; event = going.event }

-- What holds before one byte.
pub record GoReady (t m : List ℕ) (states dense : ℕ) (from : Going) : Type 0 where
  pub memory : WholeRunning m
  pub counted : states ≡ state_count_in t
  pub rows : dense ≡ dense_in t
  pub few_states : states ≤ room_for_states
  pub some_dense : 1 ≤ dense
  pub few_dense : dense ≤ states
  pub inside : from.index < states
  pub early : from.place.0 < 4294967296
  pub few_taken : from.taken < 4294967296
  pub few_gains : from.gains ≤ 128 * from.taken

-- What one byte keeps.
pub record GoKept (states : ℕ) (from to : Going) : Type 0 where
  pub inside : to.index < states
  pub place : to.place.0 ≡ from.place.0 + 1
  pub taken : to.taken ≡ from.taken + 1
  pub few_gains : to.gains ≤ 128 * to.taken
