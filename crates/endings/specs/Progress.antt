-- How far the filling is, pass by pass. Assumes nothing: these are definitions.
use Rattle.std.specs.Prelude.{◌≡◌, cond, List, ℕ, ◌+◌, ◌≤◌, ◌<◌, drop}
use Rattle.meaning.specs.Books.{Book}
use Rattle.meaning.specs.Automaton.{nonempty}
use Rattle.numbering.specs.States.{state_count, state_at, failure_in}
use Rattle.tables.specs.Spots.{spots_of}
use Rattle.tables.specs.Endings.{pieces_with, endings, keyword_of, link_to, head_of, link_of}
use Rattle.tables.specs.Layout.{room_for_states, room_for_pieces}
use Rattle.tables.specs.Reads.{Whole, info_in, out_in, link_in, fail_in}

-- What is read of state i says that these pieces end in it: whether there is one, and the first.
pub record Shows (t : List ℕ) (i : ℕ) (pieces : List ℕ) : Type 0 where
  pub info : info_in t i ≡ cond (nonempty pieces) 128 0
  pub out : out_in t i ≡ head_of pieces

-- The pieces from p on whose keyword is this one.
unfoldable pub own_from : Book → List ℕ → ℕ → List ℕ
own_from book keyword p = pieces_with keyword p (drop p (spots_of book))

-- The pieces after p with the same keyword.
unfoldable pub later_of : Book → ℕ → List ℕ
unfolding own_from
later_of book p = own_from book (keyword_of book p) (p + 1)

-- ── The passes ──

-- The pieces from p on have been put first: each state shows those of its keyword, and each of them is linked to the next.
pub record Owned (book : Book) (p : ℕ) (t : List ℕ) : Type 0 where
  pub whole : Whole t
  pub shows : (i : ℕ) → i < room_for_states → Shows t i (own_from book (state_at book i) p)
  pub links : (q : ℕ) → p ≤ q → q < room_for_pieces → link_in t q ≡ link_to (later_of book q)

-- The states below c show all that end in them, the others still their own pieces.
pub record Inherited (book : Book) (c : ℕ) (t : List ℕ) : Type 0 where
  pub whole : Whole t
  pub fails : (i : ℕ) → i < state_count book → fail_in t i ≡ failure_in book i
  pub done : (i : ℕ) → i < c → i < room_for_states → Shows t i (endings book (state_at book i))
  pub still : (i : ℕ) → c ≤ i → i < room_for_states → Shows t i (own_from book (state_at book i) 0)
  pub links : (q : ℕ) → q < room_for_pieces → link_in t q ≡ link_to (later_of book q)

-- The pieces below p have their links, the others still those to the next one of their keyword.
pub record Linked (book : Book) (p : ℕ) (t : List ℕ) : Type 0 where
  pub whole : Whole t
  pub fails : (i : ℕ) → i < state_count book → fail_in t i ≡ failure_in book i
  pub shows : (i : ℕ) → i < room_for_states → Shows t i (endings book (state_at book i))
  pub done : (q : ℕ) → q < p → q < room_for_pieces → link_in t q ≡ link_of book q
  pub still : (q : ℕ) → p ≤ q → q < room_for_pieces → link_in t q ≡ link_to (later_of book q)
