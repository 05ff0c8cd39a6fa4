-- The sum of what the infos of states say that were looked up ahead. Assumes nothing: these are definitions.
use Rattle.std.specs.Prelude.{List, ℕ, zero, suc, ◌+◌, ◌*◌, ◌<◌, length, get_or}
use Rattle.tables.specs.Layout.{room_for_states}
use Rattle.tables.specs.Reads.{info_in}

-- So many states, from one number on: they stand four numbers apart.
unfoldable pub infos_in : List ℕ → List ℕ → ℕ → ℕ → ℕ
infos_in t ahead at zero = 0
infos_in t ahead at (suc n) = info_in t (get_or ahead at 0) + infos_in t ahead (at + 4) n

-- What was looked up for so many places are states.
abbrev pub States : List ℕ → ℕ → ℕ → Type 0
States ahead at n = (i : ℕ) → i < n → get_or ahead (at + 4 * i) 0 < room_for_states

-- What holds before the infos are read.
pub record InfosReady (t ahead : List ℕ) (at n : ℕ) : Type 0 where
  pub states : States ahead at n
  pub room : at + 4 * n < length ahead + 4
  pub near : at + 4 * n < 17179869184
