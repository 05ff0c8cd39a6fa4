-- Reports as they stand in the lent room. Assumes nothing: these are definitions.
use Rattle.std.specs.Prelude.{List, [], ◌∷◌, ℕ, ◌+◌, ◌*◌, length}
use Rattle.lent.specs.Numbers.{with_bytes}
use Rattle.meaning.specs.Reports.{Report}
use Rattle.marks.specs.Reported.{Reports}

-- A report is two numbers: its phrase number and its place.
unfoldable pub in_room : List Report → List ℕ
in_room [] = []
in_room (report ∷ rest) = report.number ∷ report.place ∷ in_room rest

-- The room with these reports behind those that it has.
unfoldable pub with_these : List Report → Reports → Reports
unfolding in_room
with_these these reports = record {
  written = reports.written + length these;
  room = with_bytes reports.room (2 * reports.written) (in_room these);
}
