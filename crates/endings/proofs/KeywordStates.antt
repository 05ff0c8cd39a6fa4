-- The state of a piece's keyword, by number: it stands for the keyword, and no other number does. Assumes nothing.
use mathlib.Core.Path.{◌≡◌, sym, ap, ◌∙◌}
use mathlib.Core.Logic.{⊎_elim}
use mathlib.Core.Bool.{So}
use mathlib.Core.List.{List, []}
use Prim.Native.Nat.{ℕ, ◌≤◌, ◌<◌}
use native.Mathlib.Omega.{arith}
use lib.ListN.{get_or, get_or-eq_default}
use Rattle.lent.proofs.Cases.{lt_or_le}
use Rattle.meaning.specs.Books.{Book}
use Rattle.meaning.specs.Automaton.{is_state}
use Rattle.meaning.proofs.States.{keyword_state}
use Rattle.format.specs.Limits.{Within}
use Rattle.numbering.specs.States.{state_count, state_at, states_of, number_in}
use Rattle.numbering.proofs.Keywords.{within_bytes}
use Rattle.numbering.proofs.States.{number_below, number_is, state_at_number, state_at_empty}
use Rattle.tables.specs.Spots.{spot_count}
use Rattle.tables.specs.Endings.{keyword_of}
use Rattle.tables.specs.Layout.{room_for_states}
use Rattle.tables.proofs.Spots.{placed}
use Rattle.tables.proofs.Fits.{fits}
use Rattle.endings.proofs.Own.{some_byte}

-- What stands for a state that the book does not have is empty.
pub no_state : (book : Book) (i : ℕ) → state_count book ≤ i → state_at book i ≡ []
unfolding state_at state_count
no_state book i l = get_or-eq_default (states_of book) [] l

module _ (book : Book) (within : Within book) (at : List ℕ) (states : (p : ℕ) → p < spot_count book → get_or at p 0 ≡ number_in book (keyword_of book p))
    (p : ℕ) (inside : p < spot_count book) where
  state : So (is_state book (keyword_of book p))
  unfolding keyword_of
  state = keyword_state book (keyword_of book p) ((placed book within).listed p inside)

  pub at_state : state_at book (get_or at p 0) ≡ keyword_of book p
  at_state = ap (state_at book) (states p inside) ∙ state_at_number book (within_bytes book within) (keyword_of book p) state

  pub at_inside : get_or at p 0 < state_count book
  at_inside = rw (states p inside) (number_below book (within_bytes book within) (keyword_of book p) state)

  pub at_room : get_or at p 0 < room_for_states
  at_room = omega (arith, at_inside, (fits book within).states)

  pub at_only : (i : ℕ) → keyword_of book p ≡ state_at book i → i ≡ get_or at p 0
  at_only i e = ⊎_elim
      (λ (l : i < state_count book). sym (states p inside ∙ number_is book (within_bytes book within) (keyword_of book p) i l (sym e)))
      (λ l. absurd (some_byte book within p inside (e ∙ no_state book i l)))
      (lt_or_le i (state_count book))

  pub at_some : 0 < get_or at p 0
  at_some = ⊎_elim
      (λ (l : 0 < get_or at p 0). l)
      (λ l. let z : get_or at p 0 ≡ 0 = omega arith in absurd (some_byte book within p inside (sym at_state ∙ ap (state_at book) z ∙ state_at_empty book)))
      (lt_or_le 0 (get_or at p 0))
