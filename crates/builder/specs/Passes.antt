-- How cleared memory is filled, pass after pass, as the code does it. Assumes nothing: these are definitions.
use Rattle.std.specs.Prelude.{◌≡◌, List, ℕ, ◌≤◌, length, take, replicate}
use Rattle.meaning.specs.Books.{Book}
use Rattle.format.specs.Limits.{Within}
use Rattle.format.specs.Judged.{AcceptedAs}
use Rattle.lent.specs.Numbers.{with_number}
use Rattle.lent.specs.Zeros.{Zero}
use Rattle.numbering.specs.States.{byte_values}
use Rattle.tables.specs.Layout.{tag_at, states_at, pieces_at, phrases_at, mark_at, label_at, piece_at, rows_at, room_for_states, room_for_pieces, tables_tag, mark_from}
use Rattle.tables.specs.Reads.{Whole}
use Rattle.survey.specs.Stretches.{nowhere}
use Rattle.survey.specs.Turns.{Notes, noted, Reading}
use Rattle.survey.specs.Survey.{surveyed}
use Rattle.filling.specs.Keywords.{Gives}
use Rattle.filling.specs.Turns.{Progress, numbered, closed}
use Rattle.linking.specs.Failures.{linked}
use Rattle.linking.specs.Keywords.{keyword_states}
use Rattle.endings.specs.Filled.{filled}
use Rattle.columns.specs.Columns.{dense_for, columned}
use Rattle.cells.specs.Cells.{with_rows}
use Rattle.depths.specs.Depths as depths

-- ── What the passes are lent ──

-- The bytes of an accepted book, and memory of the published size that is zero in the regions of states, pieces and phrases.
pub record Fresh (book : Book) (bytes tables : List ℕ) : Type 0 where
  pub accepted : AcceptedAs bytes book
  pub whole : Whole tables
  pub zeros : Zero label_at rows_at tables

-- For the passes over the states: the keywords of a book within the limits, and memory that is zero in the regions of its states.
pub record Readied (book : Book) (bytes : List ℕ) (notes : Notes) : Type 0 where
  pub within : Within book
  pub gives : Gives bytes notes.words book
  pub whole : Whole notes.tables
  pub zeros : Zero label_at piece_at notes.tables

-- ── The states ──

-- The states of the keywords that were noted have their numbers.
abbrev pub numbered_by : List ℕ → Notes → Progress
numbered_by bytes notes = numbered bytes notes.words notes.tables

-- They have their failures too.
unfoldable pub linked_by : List ℕ → Notes → List ℕ
linked_by bytes notes = linked (closed (numbered_by bytes notes)) (numbered_by bytes notes).states

-- The number of the state of each keyword.
unfoldable pub found_by : List ℕ → Notes → List ℕ
unfolding linked_by
found_by bytes notes = keyword_states (linked_by bytes notes) (numbered_by bytes notes).states bytes notes.words (length notes.words)

-- And they have the pieces that end in them.
unfoldable pub states_by : List ℕ → Notes → List ℕ
unfolding linked_by found_by
states_by bytes notes = filled (found_by bytes notes) (numbered_by bytes notes).states (length notes.words) (linked_by bytes notes)

-- How many states there are, and the memory with all that is said of them.
pub record StatesExact (bytes : List ℕ) (before : Notes) (answer : ℕ) (after : List ℕ) : Type 0 where
  pub count : answer ≡ (numbered_by bytes before).states
  pub some : 1 ≤ answer
  pub few : answer ≤ room_for_states
  pub tables : after ≡ states_by bytes before

-- ── Columns, rows and depths ──

-- The bytes have their columns, the first states their rows, and all states their depths.
unfoldable pub rows_by : ℕ → List ℕ → List ℕ
rows_by states t = depths.filled (with_rows (columned t states) states (dense_for t states) byte_values) states

-- ── The whole ──

-- The head of the tables: the numbers of states, pieces and phrases, the book's mark, and the tag.
unfoldable pub with_header : ℕ → ℕ → ℕ → ℕ → List ℕ → List ℕ
with_header states pieces phrases mark t =
    with_number 8
    (with_number 8 (with_number 2 (with_number 2 (with_number 2 t states_at states) pieces_at pieces) phrases_at phrases) mark_at mark)
    tag_at tables_tag

-- The second reading of the book, with no keyword noted yet.
unfoldable pub read_into : List ℕ → List ℕ → Reading
read_into bytes blank = surveyed bytes (noted blank (replicate room_for_pieces nowhere))

-- What it leaves, with the keywords that were noted.
abbrev pub read_notes : Reading → Notes
read_notes end = noted end.notes.tables (take end.progress.pieces end.notes.words)

-- What is filled in after it.
unfoldable pub tables_after : List ℕ → Reading → List ℕ
unfolding states_by rows_by with_header
tables_after bytes end =
    with_header (numbered_by bytes (read_notes end)).states end.progress.pieces end.progress.phrases (mark_from 0 bytes)
    (rows_by (numbered_by bytes (read_notes end)).states (states_by bytes (read_notes end)))

-- The tables that the bytes of a book lead to.
unfoldable pub tables_from : List ℕ → List ℕ → List ℕ
unfolding read_into tables_after
tables_from bytes blank = tables_after bytes (read_into bytes blank)
