-- Behind a piece comes the same in every state that its keyword ends, since longer suffixes have none of its pieces: so one link for
-- each piece leads through the endings of every state. Assumes nothing.
use mathlib.Core.Path.{◌≡◌, refl, sym, ap, ◌∙◌}
use mathlib.Core.Logic.{⊎_elim}
use mathlib.Core.Bool.{Bool, true, false, cond}
use mathlib.Core.List.Memᴰ
use mathlib.Core.List.{List, [], ◌∷◌, ◌++◌, Memᴰ}
use Prim.Native.Nat.{ℕ, zero, suc, ◌≤◌}
use native.Mathlib.Numerals.{add-one}
use native.Mathlib.Omega.{arith}
use lib.Dec.{eqb}
use lib.ListN.{length}
use borrow.Author.Tests.{eq-eqb, ne_eqb, eqb-false}
use Rattle.meaning.specs.Books.{Book}
use Rattle.meaning.specs.Reports.{Sorted}
use Rattle.meaning.specs.Automaton.{Suffix, suffixes}
use Rattle.meaning.proofs.Suffixes.{suffix_cons, suffix_nil, suffix_length}
use Rattle.tables.specs.Spots.{spots_of, spot_count}
use Rattle.tables.specs.Endings.{pieces_with, pieces_with_each, endings, keyword_of, behind, link_to, link_of, chain, Leads}
use Rattle.tables.proofs.Pieces.{own_iff}
use Rattle.tables.proofs.Endings.{endings_iff, endings_once, endings_few}

-- ── What comes behind ──

pub behind_head : (p : ℕ) (l : List ℕ) → behind p (p ∷ l) ≡ l
unfolding behind
behind_head p l = rw (eq-eqb p p refl)

pub behind_other : (p q : ℕ) (l : List ℕ) → (p ≡ q → ⊥) → behind p (q ∷ l) ≡ behind p l
unfolding behind
behind_other p q l ne = rw (ne_eqb p q ne)

-- Where p is not in the first list, what comes behind it comes in the second.
pub behind_append : (p : ℕ) (l r : List ℕ) → (Memᴰ p l → ⊥) → behind p (l ++ r) ≡ behind p r
behind_append p [] r absent = refl
behind_append p (q ∷ l) r absent = behind_other p q (l ++ r) (λ e. absent (Memᴰ.head e)) ∙ behind_append p l r (λ m. absent (Memᴰ.tail m))

-- Where p is in the first list, the second comes behind it too.
pub behind_left : (p : ℕ) (l r : List ℕ) → Memᴰ p l → behind p (l ++ r) ≡ behind p l ++ r
unfolding behind
behind_left p [] r m = absurd (Memᴰ.not-nil m)
behind_left p (q ∷ l) r m = go (eqb p q) refl (behind_left p l r)
  where
    go : (v : Bool) → eqb p q ≡ v → (Memᴰ p l → behind p (l ++ r) ≡ behind p l ++ r) → cond v (l ++ r) (behind p (l ++ r)) ≡ cond v l (behind p l) ++ r
    go true e ih = refl
    go false e ih = ih (⊎_elim (λ z. absurd (eqb-false p q e z)) (λ k. k) (Memᴰ.cases_cons m))

-- ── Links that lead through a list ──

pub leads_same : (onward other : ℕ → ℕ) (l : List ℕ) → ((p : ℕ) → Memᴰ p l → other p ≡ onward p) → Leads onward l → Leads other l
unfolding Leads
leads_same onward other [] same h = tt
leads_same onward other (p ∷ l) same h = (same p (Memᴰ.head refl) ∙ h.0, leads_same onward other l (λ q m. same q (Memᴰ.tail m)) h.1)

-- Where none stands twice, the links to what comes behind lead through the list.
leads_behind : (l : List ℕ) → Sorted (λ (p q : ℕ). p ≡ q → ⊥) l → Leads (λ p. link_to (behind p l)) l
unfolding Leads Sorted
leads_behind [] s = tt
leads_behind (p ∷ l) s = (
  ap link_to (behind_head p l),
  leads_same (λ q. link_to (behind q l)) (λ q. link_to (behind q (p ∷ l))) l
      (λ q m. ap link_to (behind_other q p l (λ e. s.0 q m (sym e))))
      (leads_behind l s.1),
)

-- Following links that lead through a list meets it, one after the other.
pub chain_list : (onward : ℕ → ℕ) (l : List ℕ) (most : ℕ) → length l ≤ most → Leads onward l → chain onward most (link_to l) ≡ l
unfolding Leads chain link_to
chain_list onward [] zero few h = refl
chain_list onward [] (suc most) few h = refl
chain_list onward (p ∷ l) zero few h = absurd (omega arith)
chain_list onward (p ∷ l) (suc most) few h =
    rw (add-one, h.0) (ap {B = List ℕ} (λ k. p ∷ k) (chain_list onward l most (omega arith) h.1))

-- ── The links of a book ──

module _ (book : Book) where
  -- Behind a piece comes the same in each state that its keyword ends.
  pub behind_same : (u : List ℕ) (p : ℕ) → Suffix (keyword_of book p) u → behind p (endings book u) ≡ behind p (endings book (keyword_of book p))
  unfolding endings suffixes pieces_with_each
  behind_same [] p h = rw (suffix_nil h)
  behind_same (x ∷ u) p h = ⊎_elim
      (λ (e : keyword_of book p ≡ x ∷ u). rw e)
      (λ k. behind_append p (pieces_with (x ∷ u) 0 (spots_of book)) (endings book u) (λ m. omega (arith, suffix_length k, ap length ((own_iff book (x ∷ u) p).0 m).1)) ∙ behind_same u p k)
      ((suffix_cons (keyword_of book p) x u).0 h)

  pub endings_lead : (u : List ℕ) → Leads (link_of book) (endings book u)
  unfolding link_of
  endings_lead u = leads_same (λ p. link_to (behind p (endings book u))) (link_of book) (endings book u)
      (λ p m. ap link_to (sym (behind_same u p ((endings_iff book u p).0 m).1)))
      (leads_behind (endings book u) (endings_once book u))

  -- Following the links from the first ending of a state meets exactly its endings, in order.
  pub chain_endings : (u : List ℕ) (most : ℕ) → spot_count book ≤ most → chain (link_of book) most (link_to (endings book u)) ≡ endings book u
  chain_endings u most room = chain_list (link_of book) (endings book u) most (omega (arith, endings_few book u)) (endings_lead u)
