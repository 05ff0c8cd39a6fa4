-- Which places the endings leave as they are: all but those of info, of out and of the links; and how long the memory stays.
-- Assumes nothing.
use mathlib.Core.Path.{◌≡◌, refl, ◌∙◌}
use mathlib.Core.Logic.{◌⊎◌, inl, inr}
use mathlib.Core.Bool.{Bool, true, false, cond}
use mathlib.Core.List.{List}
use Prim.Native.Nat.{ℕ, zero, suc, ◌+◌, ◌*◌, ◌≤◌, ◌<◌}
use native.Mathlib.Omega.{arith}
use lib.Dec.{eqb}
use lib.ListN.{length, get_or, length-set}
use Rattle.lent.proofs.Cases.{lt_or_le}
use Rattle.lent.proofs.Numbers.{length_with_number}
use Rattle.tables.specs.Layout.{info_at, depth_at, piece_at, phrase_at}
use Rattle.tables.specs.Reads.{link_in, first_link_in, back_in, ending_in}
use Rattle.endings.specs.Filled.{with_ending, with_link, with_first, own_below, inherited_out, inherited_info, with_inherited, inherited_below, with_link_on, linked_below, filled}
use Rattle.endings.specs.Right.{Elsewhere}

-- ── Places ──

pub elsewhere_low : (k : ℕ) → (k < info_at) ⊎ ((depth_at ≤ k) × (k < piece_at)) → Elsewhere k
elsewhere_low k (inl a) = record { states = inl a; pieces = λ p l. inl (omega arith) }
elsewhere_low k (inr a) = record { states = inr a.0; pieces = λ p l. inl (omega (arith, a.1)) }

pub elsewhere_high : (k : ℕ) → phrase_at ≤ k → Elsewhere k
elsewhere_high k a = record { states = inr (omega arith); pieces = λ p l. inr (omega arith) }

-- In an entry of a piece, before the link and behind it.
pub elsewhere_front : (p k : ℕ) → piece_at + 8 * p ≤ k → k < piece_at + 8 * p + 4 → Elsewhere k
elsewhere_front p k a b = record { states = inr (omega arith); pieces = λ q l. side q (lt_or_le q p) }
  where
    side : (q : ℕ) → (q < p) ⊎ (p ≤ q) → (k < piece_at + 8 * q + 4) ⊎ (piece_at + 8 * q + 6 ≤ k)
    side q (inl l) = inr (omega arith)
    side q (inr l) = inl (omega arith)

pub elsewhere_back : (p k : ℕ) → piece_at + 8 * p + 6 ≤ k → k < piece_at + 8 * p + 8 → Elsewhere k
elsewhere_back p k a b = record { states = inr (omega arith); pieces = λ q l. side q (lt_or_le p q) }
  where
    side : (q : ℕ) → (p < q) ⊎ (q ≤ p) → (k < piece_at + 8 * q + 4) ⊎ (piece_at + 8 * q + 6 ≤ k)
    side q (inl l) = inl (omega arith)
    side q (inr l) = inr (omega arith)

-- ── Length ──

length_ending : (t : List ℕ) (i out info : ℕ) → length (with_ending t i out info) ≡ length t
unfolding with_ending
length_ending t i out info = simp length-set

length_link : (t : List ℕ) (p link : ℕ) → length (with_link t p link) ≡ length t
unfolding with_link
length_link t p link = length_with_number 2 t (piece_at + 8 * p + 4) link

length_first : (t : List ℕ) (i p : ℕ) → length (with_first t i p) ≡ length t
unfolding with_first
length_first t i p = length_ending (with_link t p (first_link_in t i)) i p 128 ∙ length_link t p (first_link_in t i)

length_own : (at : List ℕ) (p : ℕ) (t : List ℕ) → length (own_below at p t) ≡ length t
unfolding own_below
length_own at zero t = refl
length_own at (suc p) t = length_own at p (with_first t (get_or at p 0) p) ∙ length_first t (get_or at p 0) p

-- Of two memories as long as a third, whichever is taken is as long.
either_long : (test : Bool) (s t : List ℕ) (n : ℕ) → length s ≡ n → length t ≡ n → length (cond test s t) ≡ n
either_long true s t n e f = e
either_long false s t n e f = f

length_inherited : (i : ℕ) (t : List ℕ) → length (inherited_below i t) ≡ length t
unfolding inherited_below with_inherited
length_inherited zero t = refl
length_inherited (suc i) t = go (inherited_below i t) (length_inherited i t)
  where
    go : (s : List ℕ) → length s ≡ length t → length (with_inherited s i) ≡ length t
    go s e = either_long (ending_in s i) s (with_ending s i (inherited_out s i) (inherited_info s i)) (length t) e (length_ending s i (inherited_out s i) (inherited_info s i) ∙ e)

length_linked : (at : List ℕ) (p : ℕ) (t : List ℕ) → length (linked_below at p t) ≡ length t
unfolding linked_below with_link_on
length_linked at zero t = refl
length_linked at (suc p) t = go (linked_below at p t) (length_linked at p t)
  where
    go : (s : List ℕ) → length s ≡ length t → length (with_link_on s (get_or at p 0) p) ≡ length t
    go s e =
        let link : ℕ = first_link_in s (back_in s (get_or at p 0)) in
        either_long (eqb (link_in s p) 0) (with_link s p link) s (length t) (length_link s p link ∙ e) e

pub length_filled : (at : List ℕ) (states pieces : ℕ) (t : List ℕ) → length (filled at states pieces t) ≡ length t
unfolding filled
length_filled at states pieces t =
    length_linked at pieces (inherited_below states (own_below at pieces t))
    ∙ length_inherited states (own_below at pieces t)
    ∙ length_own at pieces t
