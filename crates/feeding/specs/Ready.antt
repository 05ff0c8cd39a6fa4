-- What holds before bytes are taken, and what is kept: the running memory has its size, the counts of the tables are in range, and so are state and place.
-- Assumes nothing: these are definitions.
use Rattle.std.specs.Prelude.{◌≡◌, true, List, ℕ, ◌+◌, ◌-◌, ◌*◌, ◌≤◌, ◌<◌, length, drop}
use Rattle.std.specs.Fn.{Shared}
use denote.Ref.{Bor}
use Rattle.tables.specs.Layout.{room_for_states, room_for_phrases}
use Rattle.tables.specs.Reads.{state_count_in, dense_in, phrase_count_in}
use Rattle.running.specs.Reads.{WholeRunning}
use Rattle.seeking.specs.Foreseen.{after_from, Looked, Foreseen}
use Rattle.gliding.specs.Glide.{glide_in, gone_by, glide_of, GlideReady, GlideKept}
use Rattle.gliding.specs.declared.Way.{Way}
use Rattle.gliding.specs.declared.Went.{Went}
use Rattle.ahead.specs.Columns.{columns_fit}
use Rattle.feeding.specs.declared.Progress.{Progress}
use Rattle.feeding.specs.Taken.{run_of, to_come}
use Rattle.feeding.specs.Blocks.{all_blocks, ahead_taken}

-- Before a part of so many bytes.
pub record Ready (t m : List ℕ) (offered state place : ℕ) : Type 0 where
  pub memory : WholeRunning m
  pub states : state_count_in t ≤ room_for_states
  pub some_dense : 1 ≤ dense_in t
  pub few_dense : dense_in t ≤ state_count_in t
  pub phrases : phrase_count_in t ≤ room_for_phrases
  pub inside : state < state_count_in t
  pub early : place + offered < 4294967296

-- After it: the state is one of the tables', no more bytes were taken than there are, and each gained less than 128.
pub record Kept (t part : List ℕ) (progress : Progress) : Type 0 where
  pub inside : progress.way.state.0 < state_count_in t
  pub within : progress.way.taken ≤ length part
  pub few_gains : progress.way.gains ≤ 128 * progress.way.taken

-- ── From where a call has come to ──

-- Before the rest of a part, with room for so many reports: as before a part of the bytes that are left.
pub record ReadyOn (t m part : List ℕ) (free : ℕ) (from : Progress) : Type 0 where
  pub ready : Ready t m (length part - from.way.taken) from.way.state.0 from.way.place.0
  pub kept : Kept t part from
  pub few : from.written ≤ free
  pub short : length part < 4294967296

-- After some of it: no more was written than there is room for, and the place went on with the bytes.
pub record KeptOn (t part : List ℕ) (free : ℕ) (from to : Progress) : Type 0 where
  pub kept : Kept t part to
  pub few : to.written ≤ free
  pub early : to.way.place.0 + from.way.taken ≡ from.way.place.0 + to.way.taken

-- All of it was taken for which there is room.
pub record Took (t part : List ℕ) (free : ℕ) (m₀ room₀ : List ℕ) (from : Progress) (m room : List ℕ) (to : Progress) : Type 0 where
  pub all : run_of to m room ≡ to_come t free part (run_of from m₀ room₀)
  pub kept : KeptOn t part free from to

-- A way that goes on from where a call has come to: its state is the one that the bytes lead to.
pub record OnTheWay (t part : List ℕ) (from : Progress) (way : Way) : Type 0 where
  pub onward : from.way.taken ≤ way.taken
  pub state : way.state.0 ≡ after_from t part from.way.taken from.way.state.0 (way.taken - from.way.taken)

-- A step may be taken from any way that goes on from there, whatever the memory, and glides.
pub record GoesOn {F : Type 0} (g : Shared F (Bor (List ℕ) × (Way × Unit {0})) Went) (step : F) (t part : List ℕ) (from : Progress) : Type 0 where
  pub callable : (m : Bor (List ℕ)) (way : Way) → GlideReady t m.now part way → OnTheWay t part from way → g.pre step (m, (way, tt))
  pub glides : (m : Bor (List ℕ)) (way : Way) (to : Went) → GlideReady t m.now part way → OnTheWay t part from way → g.post step (m, (way, tt)) to
      → (glide_of to ≡ glide_in t m.now (drop way.taken part) (gone_by way)) × GlideKept t part way to

-- ── Blocks whose states are looked up ahead ──

-- Before quarter k of a block, which ends with the part: the states of its bytes are right.
pub record QuarterReady (t m part : List ℕ) (free : ℕ) (states : List ℕ) (k : ℕ) (from : Progress) : Type 0 where
  pub on : ReadyOn t m part free from
  pub of_four : k < 4
  pub foreseen : Foreseen t part from.way.taken from.way.state.0 states from.way.taken k
  pub room_for : 4 * (length part - from.way.taken) ≤ length states

-- Before the quarters of a block: the states of all were looked up.
pub record QuartersReady (t m part : List ℕ) (free : ℕ) (states : List ℕ) (quarter : ℕ) (from : Progress) : Type 0 where
  pub on : ReadyOn t m part free from
  pub within : from.way.taken + 4 * quarter ≤ length part
  pub looked : Looked t part from.way.taken quarter from.way.state.0 states
  pub room_for : 4 * quarter ≤ length states

-- Before some blocks.
pub record BlocksReady (t m part : List ℕ) (free : ℕ) (from : Progress) : Type 0 where
  pub on : ReadyOn t m part free from
  pub fit : columns_fit t ≡ true

-- Of so many bytes a block with such quarters can be taken: not at all where they have no byte.
pub record QuarterFits (remaining quarter : ℕ) : Type 0 where
  pub within : 4 * quarter ≤ remaining
  pub short : quarter ≤ 1024
  pub long : 0 < quarter → 32 ≤ quarter

-- Before a block.
pub record BlockReady (t m part : List ℕ) (free quarter : ℕ) (from : Progress) : Type 0 where
  pub blocks : BlocksReady t m part free from
  pub fits : QuarterFits (length part - from.way.taken) quarter
  pub some : 0 < quarter

-- All blocks of a part were taken, from where a call had come to.
pub record TookBlocks (t part : List ℕ) (free : ℕ) (m₀ room₀ : List ℕ) (from : Progress) (m room : List ℕ) (to : Progress) : Type 0 where
  pub all : run_of to m room ≡ all_blocks t free part (run_of from m₀ room₀)
  pub kept : KeptOn t part free from to

-- As much of a part was taken as is taken in blocks.
pub record TookAhead (t part : List ℕ) (free : ℕ) (m₀ room₀ : List ℕ) (from : Progress) (m room : List ℕ) (to : Progress) : Type 0 where
  pub all : run_of to m room ≡ ahead_taken t free part (run_of from m₀ room₀)
  pub kept : KeptOn t part free from to

-- ── Steps ──

-- Before the failure steps are counted.
pub record Countable (t : List ℕ) (first : ℕ) (progress : Progress) : Type 0 where
  pub from_state : first < room_for_states
  pub to_state : progress.way.state.0 < room_for_states
  pub few_taken : progress.way.taken < 4294967296
  pub few_gains : progress.way.gains ≤ 128 * progress.way.taken
