-- How out, info and the links of the tables are filled, as the code does it. `at` has the state of each piece's keyword, by number.
-- Assumes nothing: these are definitions.
use Rattle.std.specs.Prelude.{cond, List, ℕ, zero, suc, ◌+◌, ◌*◌, eqb, get_or, set}
use Rattle.lent.specs.Numbers.{with_number}
use Rattle.tables.specs.Layout.{info_at, out_at, piece_at}
use Rattle.tables.specs.Reads.{info_in, out_in, link_in, ending_in, first_link_in, back_in}

-- State i has this out and this info.
unfoldable pub with_ending : List ℕ → ℕ → ℕ → ℕ → List ℕ
with_ending t i out info = set (set t (out_at + i) out) (info_at + i) info

-- Piece p has this link.
unfoldable pub with_link : List ℕ → ℕ → ℕ → List ℕ
with_link t p link = with_number 2 t (piece_at + 8 * p + 4) link

-- Piece p becomes the first that ends in state i, and is linked to what was the first until then.
unfoldable pub with_first : List ℕ → ℕ → ℕ → List ℕ
unfolding with_ending with_link
with_first t i p = with_ending (with_link t p (first_link_in t i)) i p 128

-- The pieces below a number become the first of their states one after the other, the last of them first.
unfoldable pub own_below : List ℕ → ℕ → List ℕ → List ℕ
unfolding with_first
own_below at zero t = t
own_below at (suc p) t = own_below at p (with_first t (get_or at p 0) p)

-- What state i inherits: the out and the info of its failure.
abbrev pub inherited_out : List ℕ → ℕ → ℕ
inherited_out t i = out_in t (back_in t i)

abbrev pub inherited_info : List ℕ → ℕ → ℕ
inherited_info t i = info_in t (back_in t i)

-- State i, where it has no piece of its own, has what it inherits.
unfoldable pub with_inherited : List ℕ → ℕ → List ℕ
unfolding with_ending
with_inherited t i = cond (ending_in t i) t (with_ending t i (inherited_out t i) (inherited_info t i))

-- The same for the states below a number, in their order.
unfoldable pub inherited_below : ℕ → List ℕ → List ℕ
unfolding with_inherited
inherited_below zero t = t
inherited_below (suc i) t = with_inherited (inherited_below i t) i

-- Piece p, where none with its keyword comes after it, is linked to the first that ends in the failure of its state i.
unfoldable pub with_link_on : List ℕ → ℕ → ℕ → List ℕ
unfolding with_link
with_link_on t i p = cond (eqb (link_in t p) 0) (with_link t p (first_link_in t (back_in t i))) t

-- The same for the pieces below a number.
unfoldable pub linked_below : List ℕ → ℕ → List ℕ → List ℕ
unfolding with_link_on
linked_below at zero t = t
linked_below at (suc p) t = with_link_on (linked_below at p t) (get_or at p 0) p

-- All three, for so many states and pieces.
unfoldable pub filled : List ℕ → ℕ → ℕ → List ℕ → List ℕ
unfolding own_below inherited_below linked_below
filled at states pieces t = linked_below at pieces (inherited_below states (own_below at pieces t))
