-- What a walk or a scan reads from the tables of a book is what it looks for: the failure, the endings of a state, the ends of a phrase.
-- Assumes nothing.
use mathlib.Core.Path.{◌≡◌, refl, sym, ap, ap₂, ◌∙◌}
use mathlib.Core.Bool.{Bool, true, false, cond}
use mathlib.Core.List.{List, [], ◌∷◌, Memᴰ}
use Prim.Native.Nat.{ℕ, zero, suc, ◌+◌, ◌≤◌, ◌<◌}
use native.Mathlib.Omega.{arith}
use lib.Dec.{leb, eqb}
use borrow.Author.Tests.{le-leb, lt-leb}
use Rattle.meaning.specs.Books.{Book}
use Rattle.meaning.specs.Automaton.{nonempty}
use Rattle.format.specs.Limits.{Within}
use Rattle.numbering.specs.States.{state_count, state_at, failure_in}
use Rattle.numbering.proofs.Keywords.{within_bytes}
use Rattle.numbering.proofs.Steps.{failure_in_smaller, failure_in_root}
use Rattle.tables.specs.Regions.{Laid}
use Rattle.tables.specs.Spots.{Spot, none_left, spot_at, spot_count}
use Rattle.tables.specs.Endings.{endings, keyword_of, behind, link_to, head_of, link_of, chain}
use Rattle.tables.specs.Layout.{room_for_pieces, gain_of, ending_mark, info_of, out_of, spot_ends, ends_of, tables_layout}
use Rattle.tables.specs.Reads.{ending_in, first_link_in, back_in, onward_in, says_last, says_first, last_in, first_in}
use Rattle.tables.proofs.Followed.{back_fail, back_root, onward_link}
use Rattle.tables.proofs.Fits.{fits}
use Rattle.tables.proofs.Endings.{endings_iff, endings_few}
use Rattle.tables.proofs.Chains.{leads_same, endings_lead, chain_list}
use Rattle.tables.proofs.Fields.{info_laid, out_laid, fail_laid, link_laid, ends_laid}
use Rattle.tables.proofs.Fast.{gain_few}

-- A link to a list is one more than its first piece, if it has one.
pub link_head : (l : List ℕ) → cond (nonempty l) (head_of l + 1) 0 ≡ link_to l
unfolding nonempty head_of link_to
link_head [] = refl
link_head (p ∷ l) = refl

-- Whatever comes behind, a link leads to a piece of the list.
link_below : (n p : ℕ) (l : List ℕ) → ((q : ℕ) → Memᴰ q l → q < n) → link_to (behind p l) ≤ n
unfolding link_to behind
link_below n p [] h = omega arith
link_below n p (q ∷ l) h = go (eqb p q) (link_below n p l (λ r m. h r (Memᴰ.tail m))) l (λ r m. h r (Memᴰ.tail m))
  where
    go : (v : Bool) → link_to (behind p l) ≤ n → (r : List ℕ) → ((q : ℕ) → Memᴰ q r → q < n) → link_to (cond v r (behind p l)) ≤ n
    go true ih [] k = omega arith
    go true ih (s ∷ r) k = omega (arith, k s (Memᴰ.head refl))
    go false ih r k = ih

pub link_few : (book : Book) (p : ℕ) → link_of book p ≤ spot_count book
unfolding link_of
link_few book p = link_below (spot_count book) p (endings book (keyword_of book p)) (λ q m. ((endings_iff book (keyword_of book p) q).0 m).0)

-- The ends of a piece say where it stands in its phrase.
pub ends_say : (s : Spot) → (says_last (spot_ends s) ≡ s.last) × (says_first (spot_ends s) ≡ none_left s.before)
unfolding spot_ends says_last says_first
ends_say s = go s.last (none_left s.before)
  where
    go : (v w : Bool) → (says_last (cond v 1 0 + cond w 2 0) ≡ v) × (says_first (cond v 1 0 + cond w 2 0) ≡ w)
    go true true = (refl, refl)
    go true false = (refl, refl)
    go false true = (refl, refl)
    go false false = (refl, refl)

module _ (book : Book) (within : Within book) (t : List ℕ) (laid : Laid (tables_layout book) t) where
  module _ (i : ℕ) (inside : i < state_count book) where
    pub back_laid : back_in t i ≡ failure_in book i
    back_laid = go i refl
      where
        go : (k : ℕ) → i ≡ k → back_in t i ≡ failure_in book i
        go zero e = rw e (back_root t 0 (omega arith) ∙ sym (failure_in_root book (within_bytes book within)))
        go (suc k) e = back_fail t i (omega (arith, fail_laid book within t laid i inside, failure_in_smaller book (within_bytes book within) i (omega arith) inside)) ∙ fail_laid book within t laid i inside

    pub ending_laid : ending_in t i ≡ nonempty (endings book (state_at book i))
    unfolding ending_in info_of ending_mark
    ending_laid = ap (leb 128) (info_laid book within t laid i inside) ∙ go (nonempty (endings book (state_at book i))) (gain_of book i) (gain_few book within i inside)
      where
        go : (v : Bool) (gain : ℕ) → gain ≤ 33 → leb 128 (gain + cond v 128 0) ≡ v
        go true gain few = le-leb 128 (gain + 128) (omega arith)
        go false gain few = lt-leb 128 (gain + 0) (omega arith)

    pub first_link_laid : first_link_in t i ≡ link_to (endings book (state_at book i))
    unfolding first_link_in out_of
    first_link_laid = ap₂ (λ (v : Bool) (o : ℕ). cond v (o + 1) 0) ending_laid (out_laid book within t laid i inside) ∙ link_head (endings book (state_at book i))

  module _ (p : ℕ) (inside : p < spot_count book) where
    pub onward_laid : onward_in t p ≡ link_of book p
    onward_laid = onward_link t p (omega (arith, link_laid book within t laid p inside, link_few book p, (fits book within).pieces)) ∙ link_laid book within t laid p inside

    pub last_laid : last_in t p ≡ (spot_at book p).last
    unfolding last_in ends_of
    last_laid = ap says_last (ends_laid book within t laid p inside) ∙ (ends_say (spot_at book p)).0

    pub first_laid : first_in t p ≡ none_left (spot_at book p).before
    unfolding first_in ends_of
    first_laid = ap says_first (ends_laid book within t laid p inside) ∙ (ends_say (spot_at book p)).1

  -- Following the links that are read, from the first one of a state, meets exactly the endings of the state, in order.
  pub chain_laid : (i : ℕ) → i < state_count book → chain (onward_in t) room_for_pieces (first_link_in t i) ≡ endings book (state_at book i)
  chain_laid i inside =
      let state : List ℕ = state_at book i in
      ap (chain (onward_in t) room_for_pieces) (first_link_laid i inside)
      ∙ chain_list (onward_in t) (endings book state) room_for_pieces (omega (arith, endings_few book state, (fits book within).pieces))
      (leads_same (link_of book) (onward_in t) (endings book state) (λ p m. onward_laid p ((endings_iff book state p).0 m).0) (endings_lead book state))
