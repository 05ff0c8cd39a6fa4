-- How memory is laid out: regions one after the other, each with a number of entries that have the same parts.
-- Assumes nothing: these are definitions.
use Rattle.std.specs.Prelude.{◌≡◌, Bool, ◌&&◌, List, [], ◌∷◌, ℕ, ◌+◌, ◌*◌, ◌<◌, eqb}
use Rattle.lent.specs.Numbers.{number_at}

-- A part of an entry: a number of so many bytes, low byte first, and which number it is in entry j.
pub record Part : Type 0 where
  pub width : ℕ
  pub value : ℕ → ℕ

pub record Region : Type 0 where
  pub offset : ℕ
  pub entries : ℕ
  pub parts : List Part

-- How many bytes an entry of these parts has.
unfoldable pub entry_length : List Part → ℕ
entry_length [] = 0
entry_length (part ∷ rest) = part.width + entry_length rest

-- The memory holds these parts of entry j, from an offset on.
unfoldable pub HoldsParts : List ℕ → List Part → ℕ → ℕ → Type 0
HoldsParts memory [] j at = Unit {0}
HoldsParts memory (part ∷ rest) j at = (number_at part.width memory at ≡ part.value j) × HoldsParts memory rest j (at + part.width)

-- The memory holds a region: each of its entries.
unfoldable pub HoldsRegion : List ℕ → Region → Type 0
HoldsRegion memory region = (j : ℕ) → j < region.entries → HoldsParts memory region.parts j (region.offset + entry_length region.parts * j)

-- The memory is laid out by these regions.
unfoldable pub Laid : List Region → List ℕ → Type 0
Laid [] memory = Unit {0}
Laid (region ∷ rest) memory = HoldsRegion memory region × Laid rest memory

-- What stands for a part or a region that there is none of.
abbrev pub no_part : Part
no_part = record { width = 0; value = λ j. 0 }

abbrev pub no_region : Region
no_region = record { offset = 0; entries = 0; parts = [] }

-- The regions follow each other from an offset on, without a byte between them, up to the end.
unfoldable pub tiled : List Region → ℕ → ℕ → Bool
unfolding entry_length
tiled [] from end = eqb from end
tiled (region ∷ rest) from end = eqb region.offset from && tiled rest (from + entry_length region.parts * region.entries) end
