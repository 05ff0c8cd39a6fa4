-- Whether the column of each byte leaves room for the cells of all dense states. Assumes nothing: these are definitions.
use Rattle.std.specs.Prelude.{Bool, List, ℕ, zero, suc, leb, max}
use Rattle.tables.specs.Reads.{dense_in, column_in}
use Rattle.seeking.specs.Quick.{last_column}

-- The last place at which the column of one of so many bytes begins.
unfoldable pub farthest : List ℕ → ℕ → ℕ
farthest t zero = 0
farthest t (suc n) = max (farthest t n) (column_in t n)

-- No column of a byte begins behind the last place at which one may.
unfoldable pub columns_fit : List ℕ → Bool
columns_fit t = leb (farthest t 256) (last_column (dense_in t))
