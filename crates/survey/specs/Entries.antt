-- The entries of phrases and pieces, as they are written into the table memory. Assumes nothing: these are definitions.
use Rattle.std.specs.Prelude.{Bool, cond, List, ℕ, ◌+◌, ◌*◌, set}
use Rattle.lent.specs.Numbers.{with_number}
use Rattle.tables.specs.Layout.{piece_at, phrase_at}
use Rattle.survey.specs.declared.entries.Entry.{Entry}

-- 1 for the last piece of a phrase, and 2 more for its first.
abbrev pub ends_for : Bool → Bool → ℕ
ends_for last first = cond last 1 0 + cond first 2 0

-- The table memory with the entry of the phrase of rank j: its number and its rights code.
unfoldable pub with_phrase : ℕ → ℕ → ℕ → List ℕ → List ℕ
with_phrase j number rights t = set (with_number 2 t (phrase_at + 4 * j) number) (phrase_at + 4 * j + 2) rights

-- The table memory with the entry of piece p, but for its link.
unfoldable pub with_piece : ℕ → Entry → List ℕ → List ℕ
with_piece p entry t =
    set
    (set (with_number 2 (with_number 2 t (piece_at + 8 * p) entry.delay) (piece_at + 8 * p + 2) entry.span) (piece_at + 8 * p + 6) entry.rank.0)
    (piece_at + 8 * p + 7) entry.ends
