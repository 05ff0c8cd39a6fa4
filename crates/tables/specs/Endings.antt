-- Which pieces end in a state, in the order in which the scan looks at them. Assumes nothing: these are definitions.
use Rattle.std.specs.Prelude.{◌≡◌, cond, List, [], ◌∷◌, ◌++◌, ℕ, zero, suc, ◌+◌, eqb}
use Rattle.meaning.specs.Books.{Book}
use Rattle.meaning.specs.Matching.{same}
use Rattle.meaning.specs.Automaton.{suffixes}
use Rattle.tables.specs.Spots.{Spot, spots_of, spot_at}

-- The keyword of piece p.
unfoldable pub keyword_of : Book → ℕ → List ℕ
unfolding spot_at
keyword_of book p = (spot_at book p).piece.keyword

-- The pieces of some spots, the first of which is number p, whose keyword is this one.
unfoldable pub pieces_with : List ℕ → ℕ → List Spot → List ℕ
unfolding same
pieces_with keyword p [] = []
pieces_with keyword p (spot ∷ rest) =
    let later : List ℕ = pieces_with keyword (p + 1) rest in
    cond (same keyword spot.piece.keyword) (p ∷ later) later

-- The same for each of some keywords, one after the other.
unfoldable pub pieces_with_each : List (List ℕ) → List Spot → List ℕ
unfolding pieces_with
pieces_with_each [] spots = []
pieces_with_each (keyword ∷ rest) spots = pieces_with keyword 0 spots ++ pieces_with_each rest spots

-- The pieces whose keyword is a suffix of a state: those with the longest keyword first, and of one keyword by their number.
unfoldable pub endings : Book → List ℕ → List ℕ
unfolding pieces_with_each suffixes spots_of
endings book state = pieces_with_each (suffixes state) (spots_of book)

-- What comes after p in a list.
unfoldable pub behind : ℕ → List ℕ → List ℕ
behind p [] = []
behind p (q ∷ rest) = cond (eqb p q) rest (behind p rest)

-- One more than the first of a list, 0 where there is none.
unfoldable pub link_to : List ℕ → ℕ
link_to [] = 0
link_to (p ∷ rest) = p + 1

-- The first of a list, 0 where there is none.
unfoldable pub head_of : List ℕ → ℕ
head_of [] = 0
head_of (p ∷ rest) = p

-- The link of piece p: to the piece that is looked at after it, wherever its keyword is a suffix of the state.
unfoldable pub link_of : Book → ℕ → ℕ
unfolding link_to behind endings keyword_of
link_of book p = link_to (behind p (endings book (keyword_of book p)))

-- ── Following the links ──

-- The pieces that are met from a link on, given where each piece's link leads: one more than a piece, 0 for no further one.
-- Links from elsewhere may lead in a circle, so that at most so many pieces are met.
unfoldable pub chain : (ℕ → ℕ) → ℕ → ℕ → List ℕ
chain onward zero link = []
chain onward (suc most) zero = []
chain onward (suc most) (suc p) = p ∷ chain onward most (onward p)

-- Links lead through a list: that of each element leads to the next one, and that of the last to none.
unfoldable pub Leads : (ℕ → ℕ) → List ℕ → Type 0
unfolding link_to
Leads onward [] = Unit {0}
Leads onward (p ∷ rest) = (onward p ≡ link_to rest) × Leads onward rest
