-- Bytes that are below 256 at every offset are so one after the other. Assumes nothing.
use mathlib.Core.List.{List, [], ◌∷◌}
use Prim.Native.Nat.{ℕ, suc}
use Rattle.lent.specs.Numbers as lent
use Rattle.format.specs.Limits.{All, Bytes}

pub all_bytes : (bytes : List ℕ) → lent.Bytes bytes → Bytes bytes
unfolding All
all_bytes [] each = tt
all_bytes (x ∷ bytes) each = (each 0, all_bytes bytes (λ i. each (suc i)))
