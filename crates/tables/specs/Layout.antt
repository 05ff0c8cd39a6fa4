-- The table memory of a book: every byte of it, region by region. Assumes nothing: these are definitions.
use Rattle.std.specs.Prelude.{cond, List, [], ◌∷◌, ℕ, zero, suc, min, ◌+◌, ◌-◌, ◌*◌, ◌/◌, ◌%◌, ◌≤◌, ltb, length, get_or}
use Rattle.meaning.specs.Books.{Gap, bounded, open_from, Book}
use Rattle.meaning.specs.Automaton.{is_state, depth, parent, nonempty}
use Rattle.meaning.specs.Windows.{delay}
use Rattle.format.specs.Written.{written}
use Rattle.numbering.specs.States.{byte_values, state_count, state_at, first_child, last_byte, failure_in, step_by}
use Rattle.tables.specs.Regions.{Part, Region}
use Rattle.tables.specs.Spots.{Spot, none_left, spot_count, spot_at, no_phrase}
use Rattle.tables.specs.Endings.{endings, head_of, link_of}
use Rattle.tables.specs.Classes.{occurring, class_of, class_count}

-- The published size.
unfoldable pub tables_size : ℕ
tables_size = 49152

-- ── Where each region begins ──

abbrev pub tag_at : ℕ
tag_at = 0

abbrev pub states_at : ℕ
states_at = 8

abbrev pub dense_at : ℕ
dense_at = 10

abbrev pub pieces_at : ℕ
pieces_at = 12

abbrev pub phrases_at : ℕ
phrases_at = 14

abbrev pub mark_at : ℕ
mark_at = 16

abbrev pub spare_at : ℕ
spare_at = 24

abbrev pub column_at : ℕ
column_at = 32

abbrev pub info_at : ℕ
info_at = 544

abbrev pub out_at : ℕ
out_at = 2592

abbrev pub depth_at : ℕ
depth_at = 4640

abbrev pub label_at : ℕ
label_at = 6688

abbrev pub fail_at : ℕ
fail_at = 8736

abbrev pub child_at : ℕ
child_at = 12832

abbrev pub piece_at : ℕ
piece_at = 16930

abbrev pub phrase_at : ℕ
phrase_at = 18978

abbrev pub rows_at : ℕ
rows_at = 19490

-- ── How many entries there is room for ──

abbrev pub room_for_states : ℕ
room_for_states = 2048

abbrev pub room_for_pieces : ℕ
room_for_pieces = 256

abbrev pub room_for_phrases : ℕ
room_for_phrases = 128

abbrev pub room_for_cells : ℕ
room_for_cells = 14831

-- The states, pieces and phrases of a book have room.
pub record Fits (book : Book) : Type 0 where
  pub states : state_count book ≤ room_for_states
  pub pieces : spot_count book ≤ room_for_pieces
  pub phrases : length book.phrases ≤ room_for_phrases

-- ── What the entries are ──

-- The first bytes of built tables; they are never zero.
unfoldable pub tables_tag : ℕ
tables_tag = 0x3230454c42415454

-- An entry for each number below a count, and 0 from there on.
unfoldable pub up_to : ℕ → (ℕ → ℕ) → ℕ → ℕ
up_to count value j = cond (ltb j count) (value j) 0

unfoldable pub always : ℕ → ℕ → ℕ
always n j = n

-- The mark of a book: a plain checksum of its bytes. From 0, for each byte b, m becomes 257 m + b + 1, in 32 bits.
unfoldable pub mark_from : ℕ → List ℕ → ℕ
mark_from m [] = m
mark_from m (b ∷ rest) = mark_from ((257 * m + b + 1) % 4294967296) rest

unfoldable pub book_mark : Book → ℕ
unfolding mark_from
book_mark book = mark_from 0 (written book)

-- How many nonempty states are suffixes of the state: so many failures lead from it to the empty one.
unfoldable pub depth_of : Book → ℕ → ℕ
depth_of book i = depth (is_state book) (state_at book i)

-- A byte more adds at most one to the depth: how much less than one it grew from the state's parent to the state. The empty state is
-- its own parent.
unfoldable pub gain_of : Book → ℕ → ℕ
gain_of book i = 1 + depth (is_state book) (parent (state_at book i)) - depth (is_state book) (state_at book i)

-- The mark 128: some keyword is a suffix of the state.
unfoldable pub ending_mark : Book → ℕ → ℕ
unfolding nonempty endings
ending_mark book i = cond (nonempty (endings book (state_at book i))) 128 0

-- What a state's info says: both in one byte.
unfoldable pub info_of : Book → ℕ → ℕ
info_of book i = gain_of book i + ending_mark book i

-- The lowest piece of the longest keyword that is a suffix of the state.
unfoldable pub out_of : Book → ℕ → ℕ
unfolding head_of endings
out_of book i = head_of (endings book (state_at book i))

-- The last byte of the state, and for the empty one 0.
unfoldable pub label_of : Book → ℕ → ℕ
label_of book i = last_byte (state_at book i)

unfoldable pub delay_of : Book → ℕ → ℕ
unfolding delay
delay_of book p = delay (spot_at book p).piece

-- How much later than it opens a window closes; 65,535 says that it never does.
unfoldable pub gap_span : Gap → ℕ
gap_span (bounded least most) = most - least
gap_span (open_from least) = 65535

unfoldable pub span_of : Book → ℕ → ℕ
unfolding gap_span
span_of book p = gap_span (spot_at book p).piece.gap

unfoldable pub rank_of : Book → ℕ → ℕ
rank_of book p = (spot_at book p).rank

-- 1 for the last piece of a phrase, and 2 more for its first.
unfoldable pub spot_ends : Spot → ℕ
unfolding none_left
spot_ends spot = cond spot.last 1 0 + cond (none_left spot.before) 2 0

unfoldable pub ends_of : Book → ℕ → ℕ
unfolding spot_ends
ends_of book p = spot_ends (spot_at book p)

unfoldable pub number_of_rank : Book → ℕ → ℕ
number_of_rank book j = (get_or book.phrases j no_phrase).number

unfoldable pub rights_of_rank : Book → ℕ → ℕ
rights_of_rank book j = (get_or book.phrases j no_phrase).rights

-- ── Rows and columns ──

-- How many states have a row, from the empty one on: all, or as many as there is room for.
unfoldable pub dense_count : Book → ℕ
dense_count book = min (state_count book) (room_for_cells / class_count book)

-- Where the column of a byte begins: cells stand column by column, one column for each class.
unfoldable pub column_of : Book → ℕ → ℕ
column_of book byte = rows_at + 2 * (dense_count book * class_of book byte)

-- The next state from state i by the bytes of a class. A byte that does not occur leads to the empty state.
unfoldable pub next_by_class : Book → ℕ → ℕ → ℕ
next_by_class book i zero = 0
next_by_class book i (suc class) = (step_by book i (get_or (occurring book) class 0)).at

-- Cell j: a column has one cell for each state with a row.
unfoldable pub cell_of : Book → ℕ → ℕ
cell_of book j = next_by_class book (j % dense_count book) (j / dense_count book)

-- ── The layout ──

abbrev pub number : ℕ → (ℕ → ℕ) → Part
number width value = record { width = width; value = value }

abbrev pub region : ℕ → ℕ → List Part → Region
region offset entries parts = record { offset = offset; entries = entries; parts = parts }

-- One table: where a region begins, how many entries it has, and of each entry's parts how many bytes and what they say.
unfoldable pub tables_layout : Book → List Region
tables_layout book =
    region tag_at 1 (number 8 (always tables_tag) ∷ [])
    ∷ region states_at 1 (number 2 (always (state_count book)) ∷ [])
    ∷ region dense_at 1 (number 2 (always (dense_count book)) ∷ [])
    ∷ region pieces_at 1 (number 2 (always (spot_count book)) ∷ [])
    ∷ region phrases_at 1 (number 2 (always (length book.phrases)) ∷ [])
    ∷ region mark_at 1 (number 8 (always (book_mark book)) ∷ [])
    ∷ region spare_at 1 (number 8 (always 0) ∷ [])
    ∷ region column_at byte_values (number 2 (column_of book) ∷ [])
    ∷ region info_at room_for_states (number 1 (up_to (state_count book) (info_of book)) ∷ [])
    ∷ region out_at room_for_states (number 1 (up_to (state_count book) (out_of book)) ∷ [])
    ∷ region depth_at room_for_states (number 1 (up_to (state_count book) (depth_of book)) ∷ [])
    ∷ region label_at room_for_states (number 1 (up_to (state_count book) (label_of book)) ∷ [])
    ∷ region fail_at room_for_states (number 2 (up_to (state_count book) (failure_in book)) ∷ [])
    ∷ region child_at (room_for_states + 1) (number 2 (up_to (state_count book + 1) (first_child book)) ∷ [])
    ∷ region piece_at room_for_pieces
    (number 2 (up_to (spot_count book) (delay_of book))
    ∷ number 2 (up_to (spot_count book) (span_of book))
    ∷ number 2 (up_to (spot_count book) (link_of book))
    ∷ number 1 (up_to (spot_count book) (rank_of book))
    ∷ number 1 (up_to (spot_count book) (ends_of book)) ∷ [])
    ∷ region phrase_at room_for_phrases
    (number 2 (up_to (length book.phrases) (number_of_rank book))
    ∷ number 1 (up_to (length book.phrases) (rights_of_rank book))
    ∷ number 1 (always 0) ∷ [])
    ∷ region rows_at room_for_cells (number 2 (up_to (dense_count book * class_count book) (cell_of book)) ∷ [])
    ∷ []
