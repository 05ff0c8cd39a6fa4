-- Rows A to M hold: the definitions, run on each row, give what the row lists.
-- Assumes nothing.
use mathlib.Core.Path.{◌≡◌, refl}
use mathlib.Core.List.{map}
use Rattle.meaning.specs.Rows.{Row, rows, given}

pub rows_hold : map given rows ≡ map (λ (r : Row). r.listed) rows
unfolding rows given
rows_hold = refl
