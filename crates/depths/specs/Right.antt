-- What the tables must have before depths and gains are filled in, and what they have afterwards. Assumes nothing: these are definitions.
use Rattle.std.specs.Prelude.{◌≡◌, ◌⊎◌, List, ℕ, ◌≤◌, ◌<◌, length, get_or}
use Rattle.meaning.specs.Books.{Book}
use Rattle.numbering.specs.States.{state_count}
use Rattle.tables.specs.Layout.{info_at, out_at, depth_at, label_at, room_for_states, up_to, depth_of, ending_mark, info_of}
use Rattle.tables.specs.Reads.{Whole, info_in, depth_in}
use Rattle.stepping.specs.Held.{HoldsStates, HoldsFailures}

-- Before: states and failures are the book's, no state is deep, and its info has the mark alone.
pub record Ready (book : Book) (t : List ℕ) : Type 0 where
  pub whole : Whole t
  pub states : HoldsStates book t
  pub failures : HoldsFailures book t (state_count book)
  pub depths : (i : ℕ) → i < room_for_states → depth_in t i ≡ 0
  pub infos : (i : ℕ) → i < room_for_states → info_in t i ≡ up_to (state_count book) (ending_mark book) i

-- Afterwards: both are those of the layout, in every entry, and every other byte is as it was.
pub record Right (book : Book) (before after : List ℕ) : Type 0 where
  pub depths : (i : ℕ) → i < room_for_states → depth_in after i ≡ up_to (state_count book) (depth_of book) i
  pub infos : (i : ℕ) → i < room_for_states → info_in after i ≡ up_to (state_count book) (info_of book) i
  pub kept : (k : ℕ) → (k < info_at) ⊎ (((out_at ≤ k) × (k < depth_at)) ⊎ (label_at ≤ k)) → get_or after k 0 ≡ get_or before k 0
  pub whole : length after ≡ length before
