-- The hit lines of the reports that stand in the room, written one behind the other. Assumes nothing: these are definitions.
use Rattle.std.specs.Prelude.{List, ℕ, zero, suc, ◌+◌, ◌*◌, ◌%◌, get_or}
use Rattle.listing.specs.Lines.{hit_line}
use Rattle.listing.specs.Writing.{Left, with_line}
use Rattle.lines.specs.Rights.{rights_in}

-- Report i of the room is two numbers: the phrase number, which has 16 bits, and the place.
abbrev pub number_in : List ℕ → ℕ → ℕ
number_in room i = get_or room (2 * i) 0 % 65536

abbrev pub place_in : List ℕ → ℕ → ℕ
place_in room i = get_or room (2 * i + 1) 0

-- The line of report i is written behind what was written before: its place, its phrase number and that phrase's rights code.
unfoldable pub hit_written : List ℕ → List ℕ → ℕ → Left → Left
hit_written t room i before =
    with_line before.buffer before.next (hit_line (place_in room i) (number_in room i) (rights_in t (number_in room i)))

-- The lines of n reports from report i on.
unfoldable pub hits_written : List ℕ → List ℕ → ℕ → ℕ → Left → Left
hits_written t room i zero before = before
hits_written t room i (suc n) before = hits_written t room (i + 1) n (hit_written t room i before)
