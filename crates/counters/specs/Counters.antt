-- Each counter as made from its number, for definitions that speak of one as a whole.
-- Assumes nothing: these are definitions.
use Rattle.std.specs.Prelude.{ℕ, ◌<◌}
use Rattle.counters.specs.declared.State.{State}
use Rattle.counters.specs.declared.Place.{Place}
use Rattle.counters.specs.declared.Number.{Number}
use Rattle.counters.specs.declared.Rank.{Rank}

-- The state with the number n.
abbrev pub state_of : ℕ → State
state_of n = record { 0 = n }

-- The place after n bytes.
abbrev pub place_of : ℕ → Place
place_of n = record { 0 = n }

-- A place in a letter: at most 4,294,967,295 bytes are taken. A closing place may lie past them.
abbrev pub InLetter : ℕ → Type 0
InLetter place = place < 4294967296

-- The phrase number n.
abbrev pub number_of : ℕ → Number
number_of n = record { 0 = n }

-- The rank of the phrase that stands in its book after n others.
abbrev pub rank_of : ℕ → Rank
rank_of n = record { 0 = n }
