-- One turn of each loop, and the two sides of each test, as the definitions say them. Assumes nothing.
use mathlib.Core.Path.{◌≡◌, sym}
use mathlib.Core.Bool.{true, false}
use mathlib.Core.List.{List}
use Prim.Native.Nat.{ℕ, zero, suc, ◌+◌, ◌-◌, ◌<◌}
use native.Mathlib.Numerals.{add-one}
use native.Mathlib.Omega.{arith}
use lib.ListN.{get_or}
use borrow.Author.Tests.{eq-eqb, ne_eqb}
use Rattle.tables.specs.Reads.{info_in, out_in, link_in, ending_in, first_link_in, back_in}
use Rattle.endings.specs.Filled.{with_ending, with_link, with_first, own_below, inherited_out, inherited_info, with_inherited, inherited_below, with_link_on, linked_below}

module _ (t : List ℕ) (i : ℕ) where
  pub inherited_own : ending_in t i ≡ true → with_inherited t i ≡ t
  unfolding with_inherited
  inherited_own e = rw e

  pub inherited_back : ending_in t i ≡ false → with_inherited t i ≡ with_ending t i (inherited_out t i) (inherited_info t i)
  unfolding with_inherited
  inherited_back e = rw e

  -- The same of the numbers that the code reads.
  pub inherited_read : {back out info : ℕ} → ending_in t i ≡ false → back ≡ back_in t i → out ≡ out_in t back → info ≡ info_in t back
      → with_ending t i out info ≡ with_inherited t i
  inherited_read none led first says = rw (first, says, led) (sym (inherited_back none))

  module _ (p : ℕ) where
    pub link_on_kept : (link_in t p ≡ 0 → ⊥) → with_link_on t i p ≡ t
    unfolding with_link_on
    link_on_kept ne = rw (ne_eqb (link_in t p) 0 ne)

    pub link_on_new : link_in t p ≡ 0 → with_link_on t i p ≡ with_link t p (first_link_in t (back_in t i))
    unfolding with_link_on
    link_on_new e = rw (eq-eqb (link_in t p) 0 e)

    pub link_on_read : {back link : ℕ} → link_in t p ≡ 0 → back ≡ back_in t i → link ≡ first_link_in t back → with_link t p link ≡ with_link_on t i p
    link_on_read e led first = rw (first, led) (sym (link_on_new e))

    -- The link is read before the state gets its new first piece.
    pub first_read : {linked : List ℕ} {link : ℕ} → link ≡ first_link_in t i → linked ≡ with_link t p link → with_ending linked i p 128 ≡ with_first t i p
    unfolding with_first
    first_read first put = rw (put, first)

-- The pieces still to come, once the one below p has been put first.
pub own_turn : (at : List ℕ) (p : ℕ) (t now : List ℕ) (i : ℕ) → 0 < p → i ≡ get_or at (p - 1) 0 → now ≡ with_first t i (p - 1) → own_below at p t ≡ own_below at (p - 1) now
unfolding own_below
own_turn at zero t now i some e h = absurd (omega arith)
own_turn at (suc p) t now i some e h = let z : suc p - 1 ≡ p = omega arith in rw (h, e, z)

pub inherited_turn : (i : ℕ) (t₀ t now : List ℕ) → t ≡ inherited_below i t₀ → now ≡ with_inherited t i → now ≡ inherited_below (i + 1) t₀
unfolding inherited_below
inherited_turn i t₀ t now e h = rw (add-one, h, e)

pub linked_turn : (at : List ℕ) (p : ℕ) (t₀ t now : List ℕ) (i : ℕ) → t ≡ linked_below at p t₀ → i ≡ get_or at p 0 → now ≡ with_link_on t i p → now ≡ linked_below at (p + 1) t₀
unfolding linked_below
linked_turn at p t₀ t now i e z h = rw (add-one, h, e, z)
