-- Test 12 for table memory: what begin and feed ask of the lent bytes before they read tables in them. Its time is constant.
-- Assumes nothing: these are definitions.
use Rattle.std.specs.Prelude.{◌≡◌, Bool, ◌&&◌, List, ℕ, ◌≤◌, leb, eqb, length}
use Rattle.lent.specs.Numbers.{number_at}
use Rattle.format.specs.Limits.{Between}
use Rattle.format.specs.Faults.{between}
use Rattle.tables.specs.Layout.{tables_size, tag_at, room_for_states, room_for_pieces, room_for_phrases, tables_tag}
use Rattle.tables.specs.Reads.{state_count_in, dense_in, piece_count_in, phrase_count_in}

-- The lent bytes pass: they are as many as published, begin with the tag of built tables, and have their counts in range.
pub record TablesPass (t : List ℕ) : Type 0 where
  pub long : tables_size ≤ length t
  pub tag : number_at 8 t tag_at ≡ tables_tag
  pub states : Between 2 room_for_states (state_count_in t)
  pub dense : Between 1 (state_count_in t) (dense_in t)
  pub pieces : Between 1 room_for_pieces (piece_count_in t)
  pub phrases : Between 1 room_for_phrases (phrase_count_in t)

-- The same as a test: first the part of it that speaks of the counts.
unfoldable pub counts_pass : List ℕ → Bool
unfolding between
counts_pass t =
    between 2 room_for_states (state_count_in t)
    && (between 1 (state_count_in t) (dense_in t)
    && (between 1 room_for_pieces (piece_count_in t)
    && between 1 room_for_phrases (phrase_count_in t)))

unfoldable pub tables_pass : List ℕ → Bool
unfolding counts_pass
tables_pass t = leb tables_size (length t) && (eqb (number_at 8 t tag_at) tables_tag && counts_pass t)
