-- A piece whose keyword no later one has is linked to the first that ends in the failure of its state; the others are linked already.
-- Assumes nothing.
use mathlib.Core.Path.{◌≡◌, refl, sym, ap, ◌∙◌}
use mathlib.Core.Logic.{◌⊎◌, inl, inr, ⊎_elim}
use mathlib.Core.List.{List, [], ◌∷◌, ◌++◌}
use Prim.Native.Nat.{ℕ, zero, suc, ◌+◌, ◌≤◌, ◌<◌}
use native.Mathlib.Numerals.{add-one}
use native.Mathlib.Omega.{arith}
use lib.ListN.{get_or}
use Rattle.lent.proofs.Cases.{eq_or_ne}
use Rattle.meaning.specs.Books.{Book}
use Rattle.meaning.specs.Automaton.{is_state, failure}
use Rattle.format.specs.Limits.{Within}
use Rattle.numbering.specs.States.{state_count, state_at, number_in, failure_in}
use Rattle.numbering.proofs.Keywords.{within_bytes}
use Rattle.numbering.proofs.Steps.{failure_in_string, failure_in_inside}
use Rattle.tables.specs.Spots.{spot_count}
use Rattle.tables.specs.Endings.{endings, keyword_of, link_to, link_of}
use Rattle.tables.specs.Layout.{room_for_states, room_for_pieces}
use Rattle.tables.specs.Reads.{link_in, first_link_in, back_in}
use Rattle.tables.proofs.Fits.{fits}
use Rattle.tables.proofs.Meant.{link_few}
use Rattle.endings.specs.Filled.{with_link, with_link_on, linked_below}
use Rattle.endings.specs.Right.{Elsewhere}
use Rattle.endings.specs.Progress.{later_of, Linked}
use Rattle.endings.proofs.Turns.{link_on_kept, link_on_new}
use Rattle.endings.proofs.Views.{shows_link, length_link, link_new, link_other, link_shows, link_elsewhere, fail_kept}
use Rattle.endings.proofs.Own.{link_later}
use Rattle.endings.proofs.KeywordStates.{at_state, at_inside, at_some}
use Rattle.endings.proofs.InheritPass.{back_right}

-- A link to the first of two lists is one to the first list, unless that is empty.
link_first : (l r : List ℕ) → (link_to l ≡ 0 → ⊥) → link_to (l ++ r) ≡ link_to l
unfolding link_to
link_first [] r ne = absurd (ne refl)
link_first (p ∷ l) r ne = refl

link_second : (l r : List ℕ) → link_to l ≡ 0 → link_to (l ++ r) ≡ link_to r
unfolding link_to
link_second [] r e = refl
link_second (p ∷ l) r e = absurd (omega arith)

module _ (book : Book) (within : Within book) (at : List ℕ) (states : (p : ℕ) → p < spot_count book → get_or at p 0 ≡ number_in book (keyword_of book p)) where
  module _ (p : ℕ) (inside : p < spot_count book) (t : List ℕ) (h : Linked book p t) where
    abbrev i : ℕ
    i = get_or at p 0

    abbrev back : List ℕ
    back = failure (is_state book) (keyword_of book p)

    room : p < room_for_pieces
    room = omega (arith, (fits book within).pieces)

    later : link_in t p ≡ link_to (later_of book p)
    later = h.still p (omega arith) room

    -- The link that the piece gets, where it has none.
    link_back : first_link_in t (back_in t i) ≡ link_to (endings book back)
    link_back =
        let here : i < state_count book = at_inside book within at states p inside in
        let right : back_in t i ≡ failure_in book i = back_right book within t i here (at_some book within at states p inside) (h.fails i here) in
        let string : state_at book (failure_in book i) ≡ back = failure_in_string book (within_bytes book within) i ∙ ap (failure (is_state book)) (at_state book within at states p inside) in
        let few : failure_in book i < room_for_states = omega (arith, failure_in_inside book (within_bytes book within) i, (fits book within).states) in
        rw right (shows_link t (failure_in book i) (endings book (state_at book (failure_in book i))) (h.shows (failure_in book i) few) ∙ ap (λ (u : List ℕ). link_to (endings book u)) string)

    link_turn : (link_in t p ≡ 0) ⊎ (link_in t p ≡ 0 → ⊥)
        → Linked book (p + 1) (with_link_on t i p) × ((k : ℕ) → Elsewhere k → get_or (with_link_on t i p) k 0 ≡ get_or t k 0)
    link_turn (inr ne) = rw (link_on_kept t i p ne) (
      record {
        whole = h.whole;
        fails = h.fails;
        shows = h.shows;
        done = λ q a l. ⊎_elim (λ (z : q ≡ p). rw z right) (λ n. h.done q (omega (arith, n)) l) (eq_or_ne q p);
        still = λ q a l. h.still q (omega arith) l;
      },
      λ k x. refl,
    )
      where
        right : link_in t p ≡ link_of book p
        right = later ∙ sym (link_later book within p inside ∙ link_first (later_of book p) (endings book back) (λ e. ne (later ∙ e)))
    link_turn (inl e) = rw (link_on_new t i p e) (
      record {
        whole = omega (arith, length_link t h.whole p room link, h.whole);
        fails = λ j l. fail_kept t new kept j (omega (arith, (fits book within).states)) ∙ h.fails j l;
        shows = λ j l. link_shows t h.whole p room link j l (endings book (state_at book j)) (h.shows j l);
        done = λ q a l. ⊎_elim (λ (z : q ≡ p). rw z this) (λ n. link_other t h.whole p room link q l n ∙ h.done q (omega (arith, n)) l) (eq_or_ne q p);
        still = λ q a l. link_other t h.whole p room link q l (λ z. omega arith) ∙ h.still q (omega arith) l;
      },
      kept,
    )
      where
        link : ℕ
        link = first_link_in t (back_in t i)

        new : List ℕ
        new = with_link t p link

        kept : (k : ℕ) → Elsewhere k → get_or new k 0 ≡ get_or t k 0
        kept = link_elsewhere t h.whole p room link

        right : link ≡ link_of book p
        right = link_back ∙ sym (link_later book within p inside ∙ link_second (later_of book p) (endings book back) (sym later ∙ e))

        this : link_in new p ≡ link_of book p
        this = link_new t h.whole p room link (omega (arith, right, link_few book p, (fits book within).pieces)) ∙ right

  -- When all had their turn, each piece has its link, and elsewhere nothing has changed.
  pub link_pass : (p : ℕ) → p ≤ spot_count book → (t : List ℕ) → Linked book 0 t
      → Linked book p (linked_below at p t) × ((k : ℕ) → Elsewhere k → get_or (linked_below at p t) k 0 ≡ get_or t k 0)
  unfolding linked_below
  link_pass zero l t h = (h, λ k e. refl)
  link_pass (suc p) l t h =
      let before = link_pass p (omega arith) t h in
      let now = link_turn p l (linked_below at p t) before.0 (eq_or_ne (link_in (linked_below at p t) p) 0) in
      (rw add-one at now.0, λ k e. now.1 k e ∙ before.1 k e)
