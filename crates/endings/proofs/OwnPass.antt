-- Putting a piece first adds it to what its state shows, and its link leads to what the state showed before. Assumes nothing.
use mathlib.Core.Path.{◌≡◌, refl, sym, ap, ◌∙◌}
use mathlib.Core.Logic.{⊎_elim}
use mathlib.Core.List.{List, ◌∷◌}
use Prim.Native.Nat.{ℕ, zero, suc, ◌+◌, ◌-◌, ◌≤◌, ◌<◌}
use native.Mathlib.Numerals.{add-one}
use native.Mathlib.Omega.{arith}
use lib.ListN.{get_or}
use Rattle.lent.proofs.Cases.{eq_or_ne}
use Rattle.meaning.specs.Books.{Book}
use Rattle.meaning.specs.Automaton.{nonempty}
use Rattle.format.specs.Limits.{Within}
use Rattle.numbering.specs.States.{state_at, number_in}
use Rattle.tables.specs.Spots.{spot_count}
use Rattle.tables.specs.Endings.{keyword_of, link_to, head_of}
use Rattle.tables.specs.Layout.{room_for_states, room_for_pieces}
use Rattle.tables.specs.Reads.{Whole, link_in, first_link_in}
use Rattle.tables.proofs.Fits.{fits}
use Rattle.endings.specs.Filled.{with_ending, with_link, with_first, own_below}
use Rattle.endings.specs.Right.{Ready, Elsewhere}
use Rattle.endings.specs.Progress.{Shows, own_from, later_of, Owned}
use Rattle.endings.proofs.Views.{shows_link, length_ending, ending_new, ending_other, ending_link, ending_elsewhere, length_link, link_new, link_other, link_shows, link_elsewhere}
use Rattle.endings.proofs.Own.{own_more, own_same, own_end, own_few}
use Rattle.endings.proofs.KeywordStates.{at_state, at_room, at_only}

module _ (book : Book) (within : Within book) (at : List ℕ) (states : (p : ℕ) → p < spot_count book → get_or at p 0 ≡ number_in book (keyword_of book p)) where
  module _ (p : ℕ) (inside : p < spot_count book) (t : List ℕ) (h : Owned book (p + 1) t) where
    abbrev i : ℕ
    i = get_or at p 0

    here : i < room_for_states
    here = at_room book within at states p inside

    room : p < room_for_pieces
    room = omega (arith, (fits book within).pieces)

    abbrev link : ℕ
    link = first_link_in t i

    -- The piece is linked to the later ones of its keyword.
    link_right : link ≡ link_to (later_of book p)
    unfolding later_of
    link_right = shows_link t i (own_from book (state_at book i) (p + 1)) (h.shows i here) ∙ ap (λ (w : List ℕ). link_to (own_from book w (p + 1))) (at_state book within at states p inside)

    abbrev linked : List ℕ
    linked = with_link t p link

    whole : Whole linked
    whole = omega (arith, length_link t h.whole p room link, h.whole)

    pub first_owned : Owned book p (with_first t (get_or at p 0) p)
    unfolding with_first later_of head_of nonempty
    first_owned = record {
      whole = omega (arith, length_ending linked whole i here p 128, whole);
      shows = λ j l. ⊎_elim (λ e. new j e) (λ ne. other j l ne) (eq_or_ne j i);
      links = λ q a l. ending_link linked whole i here p 128 q l ∙ ⊎_elim (λ e. this q e) (λ ne. before q a l ne) (eq_or_ne q p);
    }
      where
        new : (j : ℕ) → j ≡ i → Shows (with_ending linked i p 128) j (own_from book (state_at book j) p)
        new j e =
            let own : own_from book (state_at book i) p ≡ p ∷ own_from book (state_at book i) (p + 1) = own_more book (state_at book i) p inside (sym (at_state book within at states p inside)) in
            rw (e, own) (ending_new linked whole i here p 128 (p ∷ own_from book (state_at book i) (p + 1)) refl refl)

        other : (j : ℕ) → j < room_for_states → (j ≡ i → ⊥) → Shows (with_ending linked i p 128) j (own_from book (state_at book j) p)
        other j l ne =
            let own : own_from book (state_at book j) p ≡ own_from book (state_at book j) (p + 1) = own_same book (state_at book j) p inside (λ e. ne (at_only book within at states p inside j e)) in
            rw own (ending_other linked whole i here p 128 j l ne (own_from book (state_at book j) (p + 1)) (link_shows t h.whole p room link j l (own_from book (state_at book j) (p + 1)) (h.shows j l)))

        this : (q : ℕ) → q ≡ p → link_in linked q ≡ link_to (later_of book q)
        this q e =
            let few : link_to (later_of book p) ≤ spot_count book = own_few book (keyword_of book p) (spot_count book - (p + 1)) (p + 1) (omega arith) in
            rw e (link_new t h.whole p room link (omega (arith, link_right, (fits book within).pieces)) ∙ link_right)

        before : (q : ℕ) → p ≤ q → q < room_for_pieces → (q ≡ p → ⊥) → link_in linked q ≡ link_to (later_of book q)
        before q a l ne = link_other t h.whole p room link q l ne ∙ h.links q (omega (arith, ne)) l

    pub first_kept : (k : ℕ) → Elsewhere k → get_or (with_first t (get_or at p 0) p) k 0 ≡ get_or t k 0
    unfolding with_first
    first_kept k e = ending_elsewhere linked whole i here p 128 k e ∙ link_elsewhere t h.whole p room link k e

  -- When all have been put first, each state shows its own pieces, and elsewhere nothing has changed.
  pub own_pass : (p : ℕ) → p ≤ spot_count book → (t : List ℕ) → Owned book p t → Owned book 0 (own_below at p t)
  unfolding own_below
  own_pass zero l t h = h
  own_pass (suc p) l t h = own_pass p (omega arith) (with_first t (get_or at p 0) p) (first_owned p l t (rw add-one h))

  pub own_kept : (p : ℕ) → p ≤ spot_count book → (t : List ℕ) → Owned book p t → (k : ℕ) → Elsewhere k → get_or (own_below at p t) k 0 ≡ get_or t k 0
  unfolding own_below
  own_kept zero l t h k e = refl
  own_kept (suc p) l t h k e =
      own_kept p (omega arith) (with_first t (get_or at p 0) p) (first_owned p l t (rw add-one h)) k e ∙ first_kept p l t (rw add-one h) k e

-- Before the first turn no piece has been put.
pub ready_owned : (book : Book) (at t : List ℕ) → Ready book at t → Owned book (spot_count book) t
unfolding later_of link_to head_of nonempty
ready_owned book at t h = record {
  whole = h.whole;
  shows = λ i l. rw (own_end book (state_at book i) (spot_count book) (omega arith)) (record { info = h.infos i l; out = h.outs i l });
  links = λ q a l. rw (own_end book (keyword_of book q) (q + 1) (omega arith)) (h.links q l);
}
