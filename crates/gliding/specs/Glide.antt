-- The quiet loop: bytes are taken until something happens. Assumes nothing: these are definitions.
use Rattle.std.specs.Prelude.{Bool, true, false, cond, not, List, [], ◌∷◌, ℕ, ◌+◌, ◌*◌, ◌≤◌, ◌<◌, eqb, length, ◌≡◌}
use Rattle.tables.specs.Layout.{room_for_states}
use Rattle.tables.specs.Reads.{state_count_in, dense_in, gain_in, ending_in}
use Rattle.running.specs.Waiting.{slot_of}
use Rattle.running.specs.Reads.{WholeRunning, flag_in}
use Rattle.seeking.specs.Quick.{quick_next}
use Rattle.gliding.specs.declared.Way.{Way}
use Rattle.gliding.specs.declared.Went.{Went}

-- How far bytes have been taken: the state, the place, how many bytes, and the sum of the gains.
pub record Gone : Type 0 where
  pub state : ℕ
  pub place : ℕ
  pub taken : ℕ
  pub gains : ℕ

-- One byte more.
unfoldable pub further : List ℕ → Gone → ℕ → Gone
further t gone byte =
    let next : ℕ = quick_next t gone.state byte in
    record { state = next; place = gone.place + 1; taken = gone.taken + 1; gains = gone.gains + gain_in t next }

-- What is seen of a slot: its flag, 0 where no window waits in it.
abbrev pub seen_in : List ℕ → ℕ → ℕ
seen_in m slot = flag_in m slot

-- Nothing happens once a state is reached at a place: no keyword ends in the state, and no window opens at the place.
unfoldable pub quiet_at : List ℕ → List ℕ → ℕ → ℕ → Bool
quiet_at t m state place = cond (ending_in t state) false (eqb (seen_in m (slot_of place)) 0)

-- The way goes on after a byte: nothing happens there.
unfoldable pub goes_on : List ℕ → List ℕ → Gone → ℕ → Bool
unfolding quiet_at further
goes_on t m gone byte = quiet_at t m (further t gone byte).state (gone.place + 1)

-- Where gliding ends, and whether what happens at the last byte taken is still to be done.
pub record Glide : Type 0 where
  pub gone : Gone
  pub event : Bool

-- One byte more, and whether the way does not go on after it.
unfoldable pub one_on : List ℕ → List ℕ → Gone → ℕ → Glide
unfolding further goes_on
one_on t m gone byte = record { gone = further t gone byte; event = not (goes_on t m gone byte) }

-- Bytes are taken up to the first after which the way does not go on, or up to the last.
unfoldable pub glide_in : List ℕ → List ℕ → List ℕ → Gone → Glide
unfolding one_on
glide_in t m [] gone = record { gone = gone; event = false }
glide_in t m (byte ∷ rest) gone =
    let on : Glide = glide_in t m rest (further t gone byte) in
    cond (goes_on t m gone byte) on (one_on t m gone byte)

-- What the code carries along, as the definitions say it.
abbrev pub gone_by : Way → Gone
gone_by way = record { state = way.state.0; place = way.place.0; taken = way.taken; gains = way.gains }

abbrev pub glide_of : Went → Glide
glide_of went = record { gone = gone_by went.way; event = went.event }

-- What holds before bytes of a part are taken: the running memory has its size, the counts of the tables are in range, and so are state, place and gains.
pub record GlideReady (t m part : List ℕ) (from : Way) : Type 0 where
  pub memory : WholeRunning m
  pub few_states : state_count_in t ≤ room_for_states
  pub some_dense : 1 ≤ dense_in t
  pub few_dense : dense_in t ≤ state_count_in t
  pub inside : from.state.0 < state_count_in t
  pub within : from.taken ≤ length part
  pub short : length part < 4294967296
  pub early : from.place.0 + length part < 4294967296 + from.taken
  pub few_gains : from.gains ≤ 128 * from.taken

-- What gliding keeps: the state is one of the tables', no more bytes are taken than there are, an event has its byte, the place goes on with the
-- bytes, and each byte gains less than 128.
pub record GlideKept (t part : List ℕ) (from : Way) (to : Went) : Type 0 where
  pub inside : to.way.state.0 < state_count_in t
  pub within : to.way.taken ≤ length part
  pub onward : from.taken ≤ to.way.taken
  pub more : to.event ≡ true → from.taken < to.way.taken
  pub early : to.way.place.0 + from.taken ≡ from.place.0 + to.way.taken
  pub few_gains : to.way.gains ≤ 128 * to.way.taken
