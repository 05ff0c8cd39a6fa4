-- What holds before places are gone over, and what is kept. Assumes nothing: these are definitions.
use Rattle.std.specs.Prelude.{◌≡◌, false, List, ℕ, ◌+◌, ◌-◌, ◌*◌, ◌≤◌, ◌<◌, length, get_or}
use Rattle.running.specs.Reads.{WholeRunning}
use Rattle.gliding.specs.Glide.{Glide, GlideReady}
use Rattle.seeking.specs.Foreseen.{Foreseen}
use Rattle.gliding.specs.declared.Way.{Way}
use Rattle.skimming.specs.Look.{Look}
use Rattle.skimming.specs.Infos.{States}
use Rattle.skimming.specs.declared.Looking.{Looking}

-- What the code carries along, as the definitions say it.
abbrev pub look_of : Looking → Look
look_of looking = record { at = looking.at; left = looking.left; place = looking.place.0; gains = looking.gains; event = looking.event }

-- The way to there in a part of so many bytes: its state is the last that was gone over.
abbrev pub way_of : List ℕ → ℕ → Looking → Glide
way_of ahead bytes looking = record {
  gone = record { state = get_or ahead (looking.at - 4) 0; place = looking.place.0; taken = bytes - looking.left; gains = looking.gains };
  event = looking.event;
}

-- Before places are gone over: the running memory has its size, what was looked up are states, and the numbers are in range.
pub record LookReady (t m ahead : List ℕ) (from : Looking) : Type 0 where
  pub memory : WholeRunning m
  pub states : States ahead from.at from.left
  pub room : from.at + 4 * from.left < length ahead + 4
  pub near : from.at + 4 * from.left < 17179869184
  pub early : from.place.0 + from.left < 4294967296
  pub few_gains : from.gains + 128 * from.left < 549755813888
  pub quiet : from.event ≡ false

-- What going over places keeps: where the states, the bytes and the places end, and each byte gains less than 128.
pub record LookKept (from to : Looking) : Type 0 where
  pub at : to.at + 4 * to.left ≡ from.at + 4 * from.left
  pub left : to.left ≤ from.left
  pub place : to.place.0 + to.left ≡ from.place.0 + from.left
  pub few_gains : to.gains + 128 * to.left ≤ from.gains + 128 * from.left

-- Before the way is told: some place was gone over.
pub record WayReady (ahead : List ℕ) (bytes : ℕ) (looking : Looking) : Type 0 where
  pub some : 4 ≤ looking.at
  pub room : looking.at < length ahead + 4
  pub within : looking.left ≤ bytes

-- Before a part is skimmed: bytes may be taken, and of a quarter that begins at a byte of the part and ends with it, every fourth number from k on is
-- the state that the byte leads to.
pub record SkimReady (t m part ahead : List ℕ) (first k : ℕ) (from : Way) : Type 0 where
  pub glide : GlideReady t m part from
  pub foreseen : Foreseen t part from.taken from.state.0 ahead first k
  pub begun : first ≤ from.taken
  pub one_of_four : k < 4
  pub room : 4 * (length part - first) ≤ length ahead
