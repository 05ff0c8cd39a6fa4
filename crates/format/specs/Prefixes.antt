-- The different nonempty prefixes of keywords. Assumes nothing: these are definitions.
use Rattle.std.specs.Prelude.{not, cond, List, [], ◌∷◌, ◌++◌, map, ℕ, ◌+◌, max, eqb, length}
use Rattle.meaning.specs.Automaton.{prefix, some_of}
use Rattle.meaning.specs.Reports.{choose}

-- The nonempty prefixes of a keyword, the shortest first.
unfoldable pub nonempty_prefixes : List ℕ → List (List ℕ)
nonempty_prefixes [] = []
nonempty_prefixes (x ∷ xs) = (x ∷ []) ∷ map (λ u. x ∷ u) (nonempty_prefixes xs)

-- The different ones of some keywords: those of the first that no later keyword has, and then those of the later ones.
unfoldable pub different_prefixes : List (List ℕ) → List (List ℕ)
unfolding nonempty_prefixes choose some_of prefix
different_prefixes [] = []
different_prefixes (w ∷ ws) = choose (λ u. not (some_of (prefix u) ws)) (nonempty_prefixes w) ++ different_prefixes ws

unfoldable pub prefix_count : List (List ℕ) → ℕ
unfolding different_prefixes
prefix_count ws = length (different_prefixes ws)

-- ── What a further keyword brings ──

-- How many bytes two keywords have in common from their start on: the length of their longest common prefix.
unfoldable pub common_prefix : List ℕ → List ℕ → ℕ
common_prefix [] ys = 0
common_prefix (x ∷ xs) [] = 0
common_prefix (x ∷ xs) (y ∷ ys) = let rest : ℕ = common_prefix xs ys in cond (eqb x y) (1 + rest) 0

-- The longest common prefix of a keyword with any of the earlier ones, 0 where there is none.
unfoldable pub most_shared : List (List ℕ) → List ℕ → ℕ
unfolding common_prefix
most_shared [] w = 0
most_shared (v ∷ earlier) w = max (common_prefix w v) (most_shared earlier w)
