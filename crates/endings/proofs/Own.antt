-- The pieces with a keyword, from one piece on: going down by one piece adds it where it has the keyword, and what comes behind a piece
-- among them are the later ones. Assumes nothing.
use mathlib.Core.Path.{◌≡◌, refl, sym, ap, ◌∙◌}
use mathlib.Core.Bool.{Bool, true, false, cond}
use mathlib.Core.List.{List, [], ◌∷◌, ◌++◌, Memᴰ}
use Prim.Native.Nat.{ℕ, zero, suc, ◌+◌, ◌≤◌, ◌<◌}
use native.Mathlib.Nat.{add-zero, zero-add}
use native.Mathlib.Numerals.{add-one}
use native.Mathlib.Omega.{arith}
use lib.ListN.{length, drop_of_length-le}
use lib.Seq.{drop-cons}
use Rattle.meaning.specs.Books.{Book}
use Rattle.meaning.specs.Matching.{same}
use Rattle.meaning.specs.Automaton.{is_state, failure}
use Rattle.meaning.proofs.Truth.{untrue}
use Rattle.meaning.proofs.Tests.{same_iff}
use Rattle.format.specs.Limits.{Within}
use Rattle.tables.specs.Spots.{spots_of, no_spot, spot_at, spot_count}
use Rattle.tables.specs.Endings.{pieces_with, endings, keyword_of, behind, link_to, link_of}
use Rattle.tables.proofs.Spots.{placed}
use Rattle.tables.proofs.Pieces.{own_iff}
use Rattle.tables.proofs.Chains.{behind_head, behind_other, behind_left}
use Rattle.tables.proofs.Endings.{endings_split}
use Rattle.endings.specs.Progress.{own_from, later_of}

-- ── One piece more ──

module _ (book : Book) (keyword : List ℕ) where
  own_step : (p : ℕ) → p < spot_count book
      → own_from book keyword p ≡ cond (same keyword (keyword_of book p)) (p ∷ own_from book keyword (p + 1)) (own_from book keyword (p + 1))
  unfolding own_from pieces_with keyword_of spot_at spot_count
  own_step p l = rw (drop-cons (spots_of book) p no_spot l, add-one)

  pub own_more : (p : ℕ) → p < spot_count book → keyword_of book p ≡ keyword → own_from book keyword p ≡ p ∷ own_from book keyword (p + 1)
  own_more p l e = own_step p l ∙ rw ((same_iff keyword (keyword_of book p)).1 (sym e))

  pub own_same : (p : ℕ) → p < spot_count book → (keyword_of book p ≡ keyword → ⊥) → own_from book keyword p ≡ own_from book keyword (p + 1)
  own_same p l ne = own_step p l ∙ rw (untrue (same keyword (keyword_of book p)) (λ h. ne (sym ((same_iff keyword (keyword_of book p)).0 h))))

  -- Past the last piece there is none.
  pub own_end : (p : ℕ) → spot_count book ≤ p → own_from book keyword p ≡ []
  unfolding own_from pieces_with spot_count
  own_end p l = rw (drop_of_length-le (spots_of book) l)

  pub own_all : own_from book keyword 0 ≡ pieces_with keyword 0 (spots_of book)
  unfolding own_from
  own_all = refl

  -- A link to one of them leads to a piece of the book.
  pub own_few : (d p : ℕ) → p + d ≡ spot_count book → link_to (own_from book keyword p) ≤ spot_count book
  unfolding link_to
  own_few zero p e = rw (own_end p (omega arith)) (omega arith)
  own_few (suc d) p e = go (same keyword (keyword_of book p)) (own_step p (omega arith)) (own_few d (p + 1) (omega arith))
    where
      go : (v : Bool) → own_from book keyword p ≡ cond v (p ∷ own_from book keyword (p + 1)) (own_from book keyword (p + 1))
          → link_to (own_from book keyword (p + 1)) ≤ spot_count book → link_to (own_from book keyword p) ≤ spot_count book
      go true h ih = rw h (omega arith)
      go false h ih = rw h ih

  -- Behind a piece of them come the later ones.
  behind_own : (d p : ℕ) → p + d < spot_count book → keyword_of book (p + d) ≡ keyword → behind (p + d) (own_from book keyword p) ≡ own_from book keyword (p + d + 1)
  behind_own zero p l e = rw add-zero (rw (own_more p (omega arith) (rw add-zero at e)) (behind_head p (own_from book keyword (p + 1))))
  behind_own (suc d) p l e =
      let z : p + suc d ≡ p + 1 + d = omega arith in
      rw z (first (same keyword (keyword_of book p)) (own_step p (omega arith)) ∙ behind_own d (p + 1) (omega arith) (rw z at e))
    where
      first : (v : Bool) → own_from book keyword p ≡ cond v (p ∷ own_from book keyword (p + 1)) (own_from book keyword (p + 1))
          → behind (p + 1 + d) (own_from book keyword p) ≡ behind (p + 1 + d) (own_from book keyword (p + 1))
      first true h = rw h (behind_other (p + 1 + d) p (own_from book keyword (p + 1)) (λ e. omega arith))
      first false h = ap (behind (p + 1 + d)) h

-- ── The links ──

module _ (book : Book) (within : Within book) where
  -- A keyword is not empty.
  pub some_byte : (p : ℕ) → p < spot_count book → keyword_of book p ≡ [] → ⊥
  unfolding keyword_of
  some_byte p l e = omega (arith, ((placed book within).within p l).long.0, ap length e)

  -- A piece is linked to the next one of its keyword, and the last of them to the first that ends in the failure.
  pub link_later : (p : ℕ) → p < spot_count book → link_of book p ≡ link_to (later_of book p ++ endings book (failure (is_state book) (keyword_of book p)))
  unfolding link_of later_of
  link_later p l = rw (split, behind_left p (pieces_with keyword 0 (spots_of book)) (endings book (failure (is_state book) keyword)) own, later)
    where
      keyword : List ℕ
      keyword = keyword_of book p

      own : Memᴰ p (pieces_with keyword 0 (spots_of book))
      own = (own_iff book keyword p).1 (l, refl)

      later : behind p (pieces_with keyword 0 (spots_of book)) ≡ own_from book keyword (p + 1)
      later = ap (behind p) (sym (own_all book keyword)) ∙ (rw zero-add at (behind_own book keyword p 0 (rw zero-add l) (rw zero-add refl)))

      split : endings book keyword ≡ pieces_with keyword 0 (spots_of book) ++ endings book (failure (is_state book) keyword)
      split = endings_split book within keyword
