-- The three passes one after the other: each begins with what the one before it leaves, and what is past the counts stays empty.
-- Assumes nothing.
use mathlib.Core.Path.{◌≡◌, sym, ap, ◌∙◌}
use mathlib.Core.Logic.{⊎_elim}
use mathlib.Core.List.{List, [], append-nil}
use Prim.Native.Nat.{ℕ, ◌+◌, ◌≤◌, ◌<◌}
use native.Mathlib.Omega.{arith}
use lib.ListN.{get_or, get_or-eq_default}
use Rattle.lent.proofs.Cases.{lt_or_le}
use Rattle.meaning.specs.Books.{Book}
use Rattle.meaning.specs.Automaton.{suffixes, nonempty}
use Rattle.format.specs.Limits.{Within}
use Rattle.numbering.specs.States.{state_count, state_at}
use Rattle.tables.specs.Spots.{Spot, spots_of, no_spot, spot_at, spot_count}
use Rattle.tables.specs.Endings.{pieces_with, pieces_with_each, endings, keyword_of, behind, link_to, head_of, link_of}
use Rattle.tables.specs.Layout.{room_for_states, room_for_pieces, up_to, ending_mark, out_of}
use Rattle.tables.specs.Reads.{link_in}
use Rattle.tables.proofs.Fits.{fits}
use Rattle.tables.proofs.Fields.{up_to_below, up_to_past}
use Rattle.tables.proofs.Endings.{endings_empty}
use Rattle.endings.specs.Filled.{own_below, inherited_below, filled}
use Rattle.endings.specs.Right.{Ready, Right, Elsewhere}
use Rattle.endings.specs.Progress.{Shows, Owned, Inherited, Linked, later_of, own_from}
use Rattle.endings.proofs.Views.{fail_kept}
use Rattle.endings.proofs.Own.{own_end, own_all}
use Rattle.endings.proofs.KeywordStates.{no_state}
use Rattle.endings.proofs.OwnPass.{own_pass, own_kept, ready_owned}
use Rattle.endings.proofs.InheritPass.{inherit_pass}
use Rattle.endings.proofs.LinkPass.{link_pass}

-- Where the entries past a count are 0 anyway, it makes no difference that the layout says so.
up_to_lem : (count : ℕ) (value : ℕ → ℕ) → ((j : ℕ) → count ≤ j → value j ≡ 0) → (j : ℕ) → value j ≡ up_to count value j
up_to_lem count value none j = ⊎_elim (λ l. sym (up_to_below count value j l)) (λ l. none j l ∙ sym (up_to_past count value j l)) (lt_or_le j count)

module _ (book : Book) (within : Within book) where
  no_ending : (i : ℕ) → state_count book ≤ i → endings book (state_at book i) ≡ []
  no_ending i l = ap (endings book) (no_state book i l) ∙ endings_empty book within

  no_own : (i : ℕ) → state_count book ≤ i → own_from book (state_at book i) 0 ≡ []
  unfolding endings suffixes pieces_with_each
  no_own i l = rw (no_state book i l, own_all) (sym (append-nil (pieces_with [] 0 (spots_of book))) ∙ endings_empty book within)

  no_keyword : (p : ℕ) → spot_count book ≤ p → keyword_of book p ≡ []
  unfolding keyword_of spot_at spot_count
  no_keyword p l = ap (λ (spot : Spot). spot.piece.keyword) (get_or-eq_default (spots_of book) no_spot l)

  no_link : (p : ℕ) → spot_count book ≤ p → link_of book p ≡ 0
  unfolding link_of link_to behind
  no_link p l = rw (no_keyword p l, endings_empty book within)

  module _ (at t : List ℕ) (ready : Ready book at t) where
    abbrev owned : List ℕ
    owned = own_below at (spot_count book) t

    own_right : Owned book 0 owned
    own_right = own_pass book within at ready.states (spot_count book) (omega arith) t (ready_owned book at t ready)

    own_else : (k : ℕ) → Elsewhere k → get_or owned k 0 ≡ get_or t k 0
    own_else = own_kept book within at ready.states (spot_count book) (omega arith) t (ready_owned book at t ready)

    abbrev inherited : List ℕ
    inherited = inherited_below (state_count book) owned

    inherit_right : Inherited book (state_count book) inherited × ((k : ℕ) → Elsewhere k → get_or inherited k 0 ≡ get_or owned k 0)
    inherit_right = inherit_pass book within (state_count book) (omega arith) owned (record {
      whole = own_right.whole;
      fails = λ i l. fail_kept t owned own_else i (omega (arith, (fits book within).states)) ∙ ready.fails i l;
      done = λ i a l. absurd (omega arith);
      still = λ i a l. own_right.shows i l;
      links = λ q l. own_right.links q (omega arith) l;
    })

    -- A state past the last one shows what ends in none.
    shows_all : (i : ℕ) → i < room_for_states → Shows inherited i (endings book (state_at book i))
    shows_all i l = ⊎_elim
        (λ (a : i < state_count book). inherit_right.0.done i a l)
        (λ a. let none : endings book (state_at book i) ≡ own_from book (state_at book i) 0 = no_ending i a ∙ sym (no_own i a) in
        rw none (inherit_right.0.still i a l))
        (lt_or_le i (state_count book))

    link_right : Linked book (spot_count book) (filled at (state_count book) (spot_count book) t)
        × ((k : ℕ) → Elsewhere k → get_or (filled at (state_count book) (spot_count book) t) k 0 ≡ get_or inherited k 0)
    unfolding filled
    link_right = link_pass book within at ready.states (spot_count book) (omega arith) inherited (record {
      whole = inherit_right.0.whole;
      fails = inherit_right.0.fails;
      shows = shows_all;
      done = λ q a l. absurd (omega arith);
      still = λ q a l. inherit_right.0.links q l;
    })

    -- Afterwards info, out and the links are those of the layout.
    pub filled_right : Right book (filled at (state_count book) (spot_count book) t)
    unfolding ending_mark out_of nonempty head_of later_of link_to
    filled_right = record {
      infos = λ i l. (link_right.0.shows i l).info ∙ up_to_lem (state_count book) (ending_mark book) (λ j a. rw (no_ending j a)) i;
      outs = λ i l. (link_right.0.shows i l).out ∙ up_to_lem (state_count book) (out_of book) (λ j a. rw (no_ending j a)) i;
      links = λ p l. link_all p l ∙ up_to_lem (spot_count book) (link_of book) no_link p;
    }
      where
        link_all : (p : ℕ) → p < room_for_pieces → link_in (filled at (state_count book) (spot_count book) t) p ≡ link_of book p
        link_all p l = ⊎_elim
            (λ (a : p < spot_count book). link_right.0.done p a l)
            (λ a. link_right.0.still p a l ∙ (rw (own_end book (keyword_of book p) (p + 1) (omega arith)) (sym (no_link p a))))
            (lt_or_le p (spot_count book))

    -- Elsewhere nothing has changed.
    pub filled_kept : (k : ℕ) → Elsewhere k → get_or (filled at (state_count book) (spot_count book) t) k 0 ≡ get_or t k 0
    filled_kept k e = link_right.1 k e ∙ inherit_right.1 k e ∙ own_else k e
