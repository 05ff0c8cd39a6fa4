-- The order of the states' numbers: by length, then by bytes. Assumes nothing: these are definitions.
use Rattle.std.specs.Prelude.{◌≡◌, ◌⊎◌, List, [], ◌∷◌, ℕ, ◌<◌, length}

-- By bytes: where two strings differ first, the first one has the smaller byte.
unfoldable pub ByBytes : List ℕ → List ℕ → Type 0
ByBytes [] v = ⊥
ByBytes (x ∷ u) [] = ⊥
ByBytes (x ∷ u) (y ∷ v) = (x < y) ⊎ ((x ≡ y) × ByBytes u v)

-- One string comes before another: it is shorter, or as long and before it by bytes.
unfoldable pub Before : List ℕ → List ℕ → Type 0
Before u v = (length u < length v) ⊎ ((length u ≡ length v) × ByBytes u v)
