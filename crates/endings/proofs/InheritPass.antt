-- A state with pieces of its own shows them first, and one without ends as its failure, which has a smaller number and had its turn.
-- Assumes nothing.
use mathlib.Core.Path.{◌≡◌, refl, sym, ap, ◌∙◌}
use mathlib.Core.Logic.{⊎_elim}
use mathlib.Core.Bool.{Bool, true, false, false≢true}
use mathlib.Core.List.{List, [], ◌∷◌, ◌++◌}
use Prim.Native.Nat.{ℕ, zero, suc, ◌+◌, ◌≤◌, ◌<◌}
use native.Mathlib.Numerals.{add-one}
use native.Mathlib.Omega.{arith}
use lib.ListN.{get_or}
use Rattle.lent.proofs.Cases.{eq_or_ne}
use Rattle.meaning.specs.Books.{Book}
use Rattle.meaning.specs.Automaton.{is_state, failure, nonempty}
use Rattle.format.specs.Limits.{Within}
use Rattle.numbering.specs.States.{state_count, state_at, failure_in}
use Rattle.numbering.proofs.Keywords.{within_bytes}
use Rattle.numbering.proofs.States.{state_at_empty}
use Rattle.numbering.proofs.Steps.{failure_in_string, failure_in_smaller}
use Rattle.tables.specs.Spots.{spots_of}
use Rattle.tables.specs.Endings.{pieces_with, endings, head_of}
use Rattle.tables.specs.Layout.{room_for_states}
use Rattle.tables.specs.Reads.{fail_in, ending_in, back_in}
use Rattle.tables.proofs.Fits.{fits}
use Rattle.tables.proofs.Followed.{back_fail, back_root}
use Rattle.tables.proofs.Endings.{endings_split, endings_empty}
use Rattle.endings.specs.Filled.{with_ending, inherited_out, inherited_info, with_inherited, inherited_below}
use Rattle.endings.specs.Right.{Elsewhere}
use Rattle.endings.specs.Progress.{Shows, own_from, Inherited}
use Rattle.endings.proofs.Turns.{inherited_own, inherited_back}
use Rattle.endings.proofs.Views.{shows_ending, length_ending, ending_new, ending_other, ending_link, ending_elsewhere, fail_kept}
use Rattle.endings.proofs.Own.{own_all}

-- A list that has an element shows the same where others follow.
shows_more : (t : List ℕ) (i : ℕ) (l r : List ℕ) → nonempty l ≡ true → Shows t i l → Shows t i (l ++ r)
unfolding nonempty head_of
shows_more t i [] r e h = absurd (false≢true e)
shows_more t i (p ∷ l) r e h = record { info = h.info; out = h.out }

none_there : (l : List ℕ) → nonempty l ≡ false → l ≡ []
unfolding nonempty
none_there [] e = refl
none_there (p ∷ l) e = absurd (false≢true (sym e))

module _ (book : Book) (within : Within book) where
  -- The failure that is read, where the failures are the book's.
  pub back_right : (t : List ℕ) (i : ℕ) → i < state_count book → 0 < i → fail_in t i ≡ failure_in book i → back_in t i ≡ failure_in book i
  back_right t i l some e = back_fail t i (omega (arith, failure_in_smaller book (within_bytes book within) i some l)) ∙ e

  module _ (c : ℕ) (inside : c < state_count book) (t : List ℕ) (h : Inherited book c t) where
    abbrev u : List ℕ
    u = state_at book c

    abbrev back : ℕ
    back = back_in t c

    here : c < room_for_states
    here = omega (arith, (fits book within).states)

    own : Shows t c (pieces_with u 0 (spots_of book))
    own = rw own_all at (h.still c (omega arith) here)

    split : endings book u ≡ pieces_with u 0 (spots_of book) ++ endings book (failure (is_state book) u)
    split = endings_split book within u

    -- With a piece of its own the state shows what ends in it already.
    shows_own : ending_in t c ≡ true → Shows t c (endings book u)
    shows_own e =
        let some : nonempty (pieces_with u 0 (spots_of book)) ≡ true = sym (shows_ending t c (pieces_with u 0 (spots_of book)) own) ∙ e in
        rw split (shows_more t c (pieces_with u 0 (spots_of book)) (endings book (failure (is_state book) u)) some own)

    -- Without one, its failure does.
    shows_back : ending_in t c ≡ false → Shows t back (endings book u)
    shows_back e = go c refl
      where
        none : pieces_with u 0 (spots_of book) ≡ []
        none = none_there (pieces_with u 0 (spots_of book)) (sym (shows_ending t c (pieces_with u 0 (spots_of book)) own) ∙ e)

        go : (k : ℕ) → c ≡ k → Shows t back (endings book u)
        go zero z =
            let root : back ≡ c = ap (back_in t) z ∙ back_root t 0 (omega arith) ∙ sym z in
            let empty : endings book u ≡ [] = ap (endings book) (ap (state_at book) z ∙ state_at_empty book) ∙ endings_empty book within in
            rw (root, empty) (rw none at own)
        go (suc k) z =
            let right : back ≡ failure_in book c = back_right t c inside (omega arith) (h.fails c inside) in
            let smaller : failure_in book c < c = failure_in_smaller book (within_bytes book within) c (omega arith) inside in
            let same : endings book u ≡ endings book (state_at book (failure_in book c)) = split ∙ rw none (ap (endings book) (sym (failure_in_string book (within_bytes book within) c))) in
            rw (right, same) (h.done (failure_in book c) smaller (omega (arith, here)))

    -- In both cases the state shows what ends in it afterwards, and the others are as they were.
    inherit_turn : (v : Bool) → ending_in t c ≡ v → Inherited book (c + 1) (with_inherited t c) × ((k : ℕ) → Elsewhere k → get_or (with_inherited t c) k 0 ≡ get_or t k 0)
    inherit_turn true e = rw (inherited_own t c e) (
      record {
        whole = h.whole;
        fails = h.fails;
        done = λ i a l. ⊎_elim (λ (z : i ≡ c). rw z (shows_own e)) (λ ne. h.done i (omega (arith, ne)) l) (eq_or_ne i c);
        still = λ i a l. h.still i (omega arith) l;
        links = h.links;
      },
      λ k x. refl,
    )
    inherit_turn false e = rw (inherited_back t c e) (
      record {
        whole = omega (arith, length_ending t h.whole c here (inherited_out t c) (inherited_info t c), h.whole);
        fails = λ i l. fail_kept t new kept i (omega (arith, (fits book within).states)) ∙ h.fails i l;
        done = λ i a l. ⊎_elim (λ (z : i ≡ c). rw z this) (λ ne. other i l ne (endings book (state_at book i)) (h.done i (omega (arith, ne)) l)) (eq_or_ne i c);
        still = λ i a l. other i l (λ z. omega arith) (own_from book (state_at book i) 0) (h.still i (omega arith) l);
        links = λ q l. ending_link t h.whole c here (inherited_out t c) (inherited_info t c) q l ∙ h.links q l;
      },
      kept,
    )
      where
        new : List ℕ
        new = with_ending t c (inherited_out t c) (inherited_info t c)

        kept : (k : ℕ) → Elsewhere k → get_or new k 0 ≡ get_or t k 0
        kept = ending_elsewhere t h.whole c here (inherited_out t c) (inherited_info t c)

        this : Shows new c (endings book u)
        this = ending_new t h.whole c here (inherited_out t c) (inherited_info t c) (endings book u) (shows_back e).out (shows_back e).info

        other : (i : ℕ) → i < room_for_states → (i ≡ c → ⊥) → (pieces : List ℕ) → Shows t i pieces → Shows new i pieces
        other = ending_other t h.whole c here (inherited_out t c) (inherited_info t c)

  -- When all had their turn, each state shows what ends in it, and elsewhere nothing has changed.
  pub inherit_pass : (c : ℕ) → c ≤ state_count book → (t : List ℕ) → Inherited book 0 t
      → Inherited book c (inherited_below c t) × ((k : ℕ) → Elsewhere k → get_or (inherited_below c t) k 0 ≡ get_or t k 0)
  unfolding inherited_below
  inherit_pass zero l t h = (h, λ k e. refl)
  inherit_pass (suc c) l t h =
      let before = inherit_pass c (omega arith) t h in
      let now = inherit_turn c l (inherited_below c t) before.0 (ending_in (inherited_below c t) c) refl in
      (rw add-one at now.0, λ k e. now.1 k e ∙ before.1 k e)
