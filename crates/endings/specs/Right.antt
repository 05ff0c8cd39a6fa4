-- What the tables must have before out, info and the links are filled, and what they have afterwards. Assumes nothing: these are definitions.
use Rattle.std.specs.Prelude.{◌≡◌, ◌⊎◌, List, ℕ, ◌+◌, ◌*◌, ◌≤◌, ◌<◌, get_or}
use Rattle.meaning.specs.Books.{Book}
use Rattle.numbering.specs.States.{state_count, number_in, failure_in}
use Rattle.tables.specs.Spots.{spot_count}
use Rattle.tables.specs.Endings.{keyword_of, link_of}
use Rattle.tables.specs.Layout.{info_at, depth_at, piece_at, room_for_states, room_for_pieces, up_to, ending_mark, out_of}
use Rattle.tables.specs.Reads.{Whole, info_in, out_in, link_in, fail_in}

-- Before: no state has an ending, no piece a link, the failures are the book's, and `at` has the state of each piece's keyword.
pub record Ready (book : Book) (at t : List ℕ) : Type 0 where
  pub whole : Whole t
  pub infos : (i : ℕ) → i < room_for_states → info_in t i ≡ 0
  pub outs : (i : ℕ) → i < room_for_states → out_in t i ≡ 0
  pub links : (p : ℕ) → p < room_for_pieces → link_in t p ≡ 0
  pub fails : (i : ℕ) → i < state_count book → fail_in t i ≡ failure_in book i
  pub states : (p : ℕ) → p < spot_count book → get_or at p 0 ≡ number_in book (keyword_of book p)

-- Afterwards: info, out and the links are those of the layout, in every entry.
pub record Right (book : Book) (t : List ℕ) : Type 0 where
  pub infos : (i : ℕ) → i < room_for_states → info_in t i ≡ up_to (state_count book) (ending_mark book) i
  pub outs : (i : ℕ) → i < room_for_states → out_in t i ≡ up_to (state_count book) (out_of book) i
  pub links : (p : ℕ) → p < room_for_pieces → link_in t p ≡ up_to (spot_count book) (link_of book) p

-- A place that is in no info, no out and no link.
pub record Elsewhere (k : ℕ) : Type 0 where
  pub states : (k < info_at) ⊎ (depth_at ≤ k)
  pub pieces : (p : ℕ) → p < room_for_pieces → (k < piece_at + 8 * p + 4) ⊎ (piece_at + 8 * p + 6 ≤ k)
