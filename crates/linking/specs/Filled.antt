-- What numbering and linking leave in the table memory. Assumes nothing: these are definitions.
use Rattle.std.specs.Prelude.{◌≡◌, ◌⊎◌, List, [], ◌∷◌, ℕ, ◌+◌, ◌≤◌, ◌<◌, length, get_or}
use Rattle.meaning.specs.Books.{Book}
use Rattle.numbering.specs.States.{state_count, first_child, failure_in}
use Rattle.tables.specs.Regions.{HoldsRegion}
use Rattle.tables.specs.Layout.{label_at, fail_at, child_at, piece_at, room_for_states, up_to, label_of, number, region}

-- The three regions of labels, failures and first children, which follow each other, are as the layout of the tables has them for
-- the book, every byte of them; and every other byte is as it was.
pub record Filled (book : Book) (before after : List ℕ) : Type 0 where
  pub labels : HoldsRegion after (region label_at room_for_states (number 1 (up_to (state_count book) (label_of book)) ∷ []))
  pub failures : HoldsRegion after (region fail_at room_for_states (number 2 (up_to (state_count book) (failure_in book)) ∷ []))
  pub children : HoldsRegion after (region child_at (room_for_states + 1) (number 2 (up_to (state_count book + 1) (first_child book)) ∷ []))
  pub kept : (k : ℕ) → (k < label_at) ⊎ (piece_at ≤ k) → get_or after k 0 ≡ get_or before k 0
  pub whole : length after ≡ length before
