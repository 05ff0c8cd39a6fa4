-- Which pieces are looked at when a state is reached, and what comes of each: a piece ends where its window has opened and the
-- place is not past its closing place. Assumes nothing: these are definitions.
use Rattle.std.specs.Prelude.{cond, List, [], ◌∷◌, ℕ, ◌+◌, ◌%◌, ltb}
use Rattle.tables.specs.Endings.{chain}
use Rattle.tables.specs.Layout.{room_for_pieces}
use Rattle.tables.specs.Reads.{first_link_in, rank_in, onward_in, last_in}
use Rattle.marks.specs.Marked.{with_mark}
use Rattle.marks.specs.declared.Marks.{Marks}
use Rattle.running.specs.Reads.{closing_place_in}
use Rattle.window.specs.Waiting.{with_waiting_from}

-- How many pieces are looked at in a state at most: as many as a book has at most.
abbrev pub most_looked : ℕ
most_looked = room_for_pieces

-- The pieces whose keyword ends in a state, in the order in which they are looked at: at most 256, whatever the links are.
unfoldable pub pieces_in : List ℕ → ℕ → List ℕ
pieces_in t state = chain (onward_in t) most_looked (first_link_in t state)

-- What has come of the pieces looked at so far: the phrases marked, and the running memory.
pub record Ended : Type 0 where
  pub marks : Marks
  pub memory : List ℕ

abbrev pub ended_with : Marks → List ℕ → Ended
ended_with marks m = record { marks = marks; memory = m }

-- The keyword of piece p ends at a place. Past the closing place nothing comes of it; a last piece marks its phrase; after
-- another the next piece waits.
unfoldable pub piece_ended : List ℕ → ℕ → Ended → ℕ → Ended
piece_ended t place ended p =
    cond
    (ltb (closing_place_in ended.memory p) place)
    ended
    (cond
    (last_in t p)
    (record { marks = with_mark ended.marks (rank_in t p); memory = ended.memory })
    (record { marks = ended.marks; memory = with_waiting_from t ended.memory ((p + 1) % room_for_pieces) place }))

-- The same for some pieces, one after the other.
unfoldable pub pieces_ended : List ℕ → ℕ → Ended → List ℕ → Ended
pieces_ended t place ended [] = ended
pieces_ended t place ended (p ∷ rest) = pieces_ended t place (piece_ended t place ended p) rest
