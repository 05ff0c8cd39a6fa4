-- Which bytes of running memory belong to no window. Assumes nothing: these are definitions.
use Rattle.std.specs.Prelude.{◌⊎◌, ℕ, ◌≤◌, ◌<◌}
use Rattle.running.specs.Layout.{flag_at, closing_at, ring_at}

-- A byte that is no closing place's.
abbrev pub Outside : ℕ → Type 0
Outside i = (i < closing_at) ⊎ (ring_at ≤ i)

-- The published size, as a number that arithmetic sees.
abbrev pub size_number : ℕ
size_number = 10528

-- A byte that is neither a flag nor a window's: one of the head, or past the published size.
abbrev pub Elsewhere : ℕ → Type 0
Elsewhere i = (i < flag_at) ⊎ (size_number ≤ i)
