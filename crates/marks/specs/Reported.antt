-- The reports of one place, read off from the marks in the order of the phrases. Assumes nothing: these are definitions.
use Rattle.std.specs.Prelude.{Bool, cond, List, [], ◌∷◌, ℕ, zero, suc, ◌+◌, ◌*◌, length}
use Rattle.lent.specs.Numbers.{with_bytes}
use Rattle.tables.specs.Reads.{phrase_count_in, phrase_number_in}
use Rattle.marks.specs.Marked.{is_marked}
use Rattle.marks.specs.declared.Marks.{Marks}

-- Of n numbers from j on, those of which a test holds, in their order.
unfoldable pub those : (ℕ → Bool) → ℕ → ℕ → List ℕ
those test j zero = []
those test j (suc n) = let rest : List ℕ = those test (j + 1) n in cond (test j) (j ∷ rest) rest

-- The ranks of the phrases that are marked, the lowest first, which is the order of their numbers.
unfoldable pub marked_ranks : List ℕ → Marks → List ℕ
marked_ranks t marks = those (is_marked marks) 0 (phrase_count_in t)

-- The reports of some ranks at a place, as they stand in the room: each a phrase number and the place.
unfoldable pub entries : List ℕ → ℕ → List ℕ → List ℕ
entries t place [] = []
entries t place (j ∷ rest) = phrase_number_in t j ∷ place ∷ entries t place rest

-- The lent room, and how many reports have been written into it.
pub record Reports : Type 0 where
  pub written : ℕ
  pub room : List ℕ

abbrev pub room_with : ℕ → List ℕ → Reports
room_with written room = record { written = written; room = room }

-- The room with the reports of some ranks at a place behind those that it has. What stands past them is as it was.
unfoldable pub with_reports : List ℕ → ℕ → List ℕ → Reports → Reports
with_reports t place ranks reports = record {
  written = reports.written + length ranks;
  room = with_bytes reports.room (2 * reports.written) (entries t place ranks);
}

-- The room with the reports of a place: those of the phrases that are marked.
unfoldable pub reported : List ℕ → ℕ → Marks → Reports → Reports
reported t place marks reports = with_reports t place (marked_ranks t marks) reports
