-- What the numbering leaves in the table memory: labels and first children as the layout of the tables has them, and every other
-- byte as it was. Assumes nothing: these are definitions.
use Rattle.std.specs.Prelude.{◌≡◌, ◌⊎◌, List, ℕ, ◌+◌, ◌≤◌, ◌<◌, length, get_or}
use Rattle.meaning.specs.Books.{Book}
use Rattle.numbering.specs.States.{state_count, first_child}
use Rattle.tables.specs.Layout.{label_at, fail_at, child_at, piece_at, room_for_states, up_to, label_of}
use Rattle.tables.specs.Reads.{label_in, first_child_in}

pub record StatesFilled (book : Book) (before after : List ℕ) : Type 0 where
  pub labels : (j : ℕ) → j < room_for_states → label_in after j ≡ up_to (state_count book) (label_of book) j
  pub children : (j : ℕ) → j ≤ room_for_states → first_child_in after j ≡ up_to (state_count book + 1) (first_child book) j
  pub kept : (k : ℕ) → (k < label_at) ⊎ (((fail_at ≤ k) × (k < child_at)) ⊎ (piece_at ≤ k)) → get_or after k 0 ≡ get_or before k 0
  pub whole : length after ≡ length before
