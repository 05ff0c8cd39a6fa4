-- What is read from table memory, field by field, whatever its bytes are. Assumes nothing: these are definitions.
use Rattle.std.specs.Prelude.{Bool, cond, List, ℕ, ◌+◌, ◌*◌, ◌/◌, ◌%◌, ◌≤◌, ltb, leb, eqb, length, get_or, Option, Some, None}
use Rattle.lent.specs.Numbers.{number_at}
use Rattle.tables.specs.Layout.{states_at, dense_at, pieces_at, phrases_at, mark_at, column_at, info_at, out_at, depth_at, label_at, fail_at, child_at}
use Rattle.tables.specs.Layout.{piece_at, phrase_at, room_for_pieces}

-- The lent bytes hold table memory of the published size. The number stands here itself, so that arithmetic sees it.
abbrev pub Whole : List ℕ → Type 0
Whole t = 49152 ≤ length t

-- ── The counts, and the book's mark ──

abbrev pub state_count_in : List ℕ → ℕ
state_count_in t = number_at 2 t states_at

-- How many states have a row.
abbrev pub dense_in : List ℕ → ℕ
dense_in t = number_at 2 t dense_at

abbrev pub piece_count_in : List ℕ → ℕ
piece_count_in t = number_at 2 t pieces_at

abbrev pub phrase_count_in : List ℕ → ℕ
phrase_count_in t = number_at 2 t phrases_at

abbrev pub mark_in : List ℕ → ℕ
mark_in t = number_at 8 t mark_at

-- ── Rows and columns ──

-- Where the column of a byte begins.
abbrev pub column_in : List ℕ → ℕ → ℕ
column_in t byte = number_at 2 t (column_at + 2 * byte)

-- The cell of state i in the column that begins at an offset.
abbrev pub cell_in : List ℕ → ℕ → ℕ → ℕ
cell_in t column i = number_at 2 t (column + 2 * i)

-- ── State i ──

abbrev pub info_in : List ℕ → ℕ → ℕ
info_in t i = get_or t (info_at + i) 0

-- The low seven bits of its info.
abbrev pub gain_in : List ℕ → ℕ → ℕ
gain_in t i = info_in t i % 128

abbrev pub depth_in : List ℕ → ℕ → ℕ
depth_in t i = get_or t (depth_at + i) 0

abbrev pub out_in : List ℕ → ℕ → ℕ
out_in t i = get_or t (out_at + i) 0

abbrev pub label_in : List ℕ → ℕ → ℕ
label_in t i = get_or t (label_at + i) 0

abbrev pub fail_in : List ℕ → ℕ → ℕ
fail_in t i = number_at 2 t (fail_at + 2 * i)

-- Its first child; the children end before the first child of the next state.
abbrev pub first_child_in : List ℕ → ℕ → ℕ
first_child_in t i = number_at 2 t (child_at + 2 * i)

-- Some keyword is a suffix of it.
unfoldable pub ending_in : List ℕ → ℕ → Bool
ending_in t i = leb 128 (info_in t i)

-- The link that says which piece to look at, if any: one more than that piece, 0 for none.
abbrev pub as_link : Option ℕ → ℕ
as_link None = 0
as_link (Some p) = p + 1

-- The link to the first piece that ends in it: one more than that piece, 0 where none does.
unfoldable pub first_link_in : List ℕ → ℕ → ℕ
unfolding ending_in
first_link_in t i = cond (ending_in t i) (out_in t i + 1) 0

-- Its failure where that is a smaller number, else the empty state: so each walk ends, whatever the bytes are.
unfoldable pub back_in : List ℕ → ℕ → ℕ
back_in t i = cond (ltb (fail_in t i) i) (fail_in t i) 0

-- ── Piece p ──

abbrev pub delay_in : List ℕ → ℕ → ℕ
delay_in t p = number_at 2 t (piece_at + 8 * p)

abbrev pub span_in : List ℕ → ℕ → ℕ
span_in t p = number_at 2 t (piece_at + 8 * p + 2)

abbrev pub link_in : List ℕ → ℕ → ℕ
link_in t p = number_at 2 t (piece_at + 8 * p + 4)

abbrev pub rank_in : List ℕ → ℕ → ℕ
rank_in t p = get_or t (piece_at + 8 * p + 6) 0

abbrev pub ends_in : List ℕ → ℕ → ℕ
ends_in t p = get_or t (piece_at + 8 * p + 7) 0

-- Its link where that is one to a piece, else 0: so no index is out of its room, whatever the bytes are.
unfoldable pub onward_in : List ℕ → ℕ → ℕ
onward_in t p = cond (leb (link_in t p) room_for_pieces) (link_in t p) 0

-- Its ends say whether it is the last of its phrase, and whether it is the first.
unfoldable pub says_last : ℕ → Bool
says_last ends = eqb (ends % 2) 1

unfoldable pub says_first : ℕ → Bool
says_first ends = eqb (ends / 2 % 2) 1

unfoldable pub last_in : List ℕ → ℕ → Bool
unfolding says_last
last_in t p = says_last (ends_in t p)

unfoldable pub first_in : List ℕ → ℕ → Bool
unfolding says_first
first_in t p = says_first (ends_in t p)

-- ── The phrase of rank j ──

abbrev pub phrase_number_in : List ℕ → ℕ → ℕ
phrase_number_in t j = number_at 2 t (phrase_at + 4 * j)

abbrev pub phrase_rights_in : List ℕ → ℕ → ℕ
phrase_rights_in t j = get_or t (phrase_at + 4 * j + 2) 0
