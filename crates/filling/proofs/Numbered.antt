-- The numbering follows the list of the book's states turn by turn, since a state's children are the bytes by which keywords go on.
-- Assumes nothing.
use mathlib.Core.Path.{◌≡◌, refl, sym, ap, ◌∙◌}
use mathlib.Core.Bool.{Bool, true, false, So, false≢true}
use mathlib.Core.List.{List, [], ◌∷◌, ◌++◌, map-append, append-nil, append_assoc}
use Prim.Native.Nat.{ℕ, zero, suc, ◌+◌, ◌≤◌, ◌<◌}
use native.Mathlib.Numerals.{add-one}
use native.Mathlib.Omega.{arith}
use lib.ListN.{length, get_or, length-append}
use borrow.Author.Tests.{lt-ltb}
use Rattle.std.specs.Prelude.{Option, Some, None}
use Rattle.meaning.specs.Books.{Book}
use Rattle.meaning.specs.Automaton.{is_state}
use Rattle.meaning.specs.Reports.{choose}
use Rattle.numbering.specs.Listed.{below, onward, children, listed, children_from}
use Rattle.numbering.specs.States.{byte_values, state_count, first_child}
use Rattle.numbering.proofs.Order.{last_byte_snoc}
use Rattle.numbering.proofs.Listed.{onward_more, listed_turn}
use Rattle.numbering.proofs.Children.{first_child_above, first_child_inside}
use Rattle.tables.specs.Layout.{room_for_states}
use Rattle.tables.specs.Reads.{Whole}
use Rattle.filling.specs.Keywords.{Gives}
use Rattle.survey.specs.declared.stretch.Stretch.{Stretch}
use Rattle.survey.specs.Stretches.{nowhere, bytes_of}
use Rattle.filling.specs.Onward.{onward_from}
use Rattle.filling.specs.Turns.{Progress, start, stretch_of, with_child, with_children, state_stretch, with_first, with_turn, after_turns}
use Rattle.filling.proofs.Noting.{goes_on_longer}
use Rattle.filling.proofs.Leading.{Leads, some_not, note_leads, leads_note, leads_begins}
use Rattle.filling.proofs.Given.{given_bytes, state_leads, leads_state}
use Rattle.filling.proofs.Held.{Stands, Held, held_begun, held_child, held_first}

module _ (text : List ℕ) (words : List Stretch) (book : Book) (gives : Gives text words book) (tables : List ℕ) (size : Whole tables) where
  abbrev Holds : ℕ → List (List ℕ) → Progress → Type 0
  Holds = Held text words tables (first_child book)

  -- ── The children of a state ──

  module _ (state : Stretch) (u : List ℕ) (stands : Stands text state u) where
    abbrev notes : List (Option ℕ)
    notes = onward_from text words state (length words)

    abbrev children_to : ℕ → List (List ℕ)
    children_to byte = children (is_state book) byte u

    bytes_are : bytes_of text state ≡ u
    bytes_are = stands.is

    -- Where u and a byte are a state, the keyword that is noted of the byte begins with them; elsewhere nothing is noted.
    noted_stands : (byte : ℕ) → So (is_state book (u ++ byte ∷ []))
        → (q : ℕ) × (get_or notes byte None ≡ Some q) × Stands text (stretch_of words (start q (state.count + 1))) (u ++ byte ∷ [])
    unfolding stretch_of bytes_of
    noted_stands byte h = (
      r.0,
      r.3,
      record {
        is = leads_begins text words state gives.inside stands.inside r.0 byte r.1 r.2 ∙ rw bytes_are refl;
        inside = omega (arith, longer, gives.inside.ends r.0 r.1);
        short = omega (arith, longer, gives.inside.short r.0 r.1);
      },
    )
      where
        some : get_or notes byte None ≡ None → ⊥
        some =
            let l = state_leads text words book gives state stands.inside byte (rw bytes_are h) in
            leads_note text words state gives.bytes (length words) l.0 byte l.1 l.2

        r : (q : ℕ) × (q < length words) × Leads text words state q byte × (get_or notes byte None ≡ Some q)
        r = note_leads text words state gives.bytes (length words) byte some

        longer : state.count < (get_or words r.0 nowhere).count
        longer = goes_on_longer text state (get_or words r.0 nowhere) r.2.goes

    noted_not : (byte : ℕ) → is_state book (u ++ byte ∷ []) ≡ false → get_or notes byte None ≡ None
    noted_not byte h = go (get_or notes byte None) refl
      where
        go : (noted : Option ℕ) → get_or notes byte None ≡ noted → get_or notes byte None ≡ None
        go None e = e
        go (Some q) e =
            let r = note_leads text words state gives.bytes (length words) byte (λ none. some_not (sym e ∙ none)) in
            absurd (false≢true (sym h ∙ rw bytes_are at (leads_state text words book gives state stands.inside byte r.0 r.1 r.2)))

    children_none : children_to 0 ≡ []
    unfolding children onward below choose
    children_none = refl

    children_with : (byte : ℕ) → So (is_state book (u ++ byte ∷ [])) → children_to (suc byte) ≡ children_to byte ++ (u ++ byte ∷ []) ∷ []
    unfolding children
    children_with byte h = rw (← (add-one byte), onward_more (is_state book) byte u, h) (map-append (λ a. u ++ a ∷ []) (onward (is_state book) byte u) (byte ∷ []))

    children_without : (byte : ℕ) → is_state book (u ++ byte ∷ []) ≡ false → children_to (suc byte) ≡ children_to byte
    unfolding children
    children_without byte h = rw (← (add-one byte), onward_more (is_state book) byte u, h, append-nil)

    module _ (turns : ℕ) (list : List (List ℕ)) (p : Progress) (held : Holds turns list p) where
      held_children : (byte : ℕ) → length list + length (children_to byte) ≤ room_for_states → Holds turns (list ++ children_to byte) (with_children (state.count + 1) notes byte p)
      unfolding with_children with_child
      held_children zero room = rw (children_none, append-nil) held
      held_children (suc byte) room = go (is_state book (u ++ byte ∷ [])) refl (held_children byte)
        where
          before : Progress
          before = with_children (state.count + 1) notes byte p

          go : (v : Bool) → is_state book (u ++ byte ∷ []) ≡ v → (length list + length (children_to byte) ≤ room_for_states → Holds turns (list ++ children_to byte) before)
              → Holds turns (list ++ children_to (suc byte)) (with_child (state.count + 1) byte (get_or notes byte None) before)
          go true h ih =
              let r = noted_stands byte h in
              let more : length (children_to (suc byte)) ≡ length (children_to byte) + 1 = ap length (children_with byte h) ∙ length-append (children_to byte) ((u ++ byte ∷ []) ∷ []) in
              rw (children_with byte h, ← (append_assoc list (children_to byte) ((u ++ byte ∷ []) ∷ [])), r.1)
              (held_child text words tables (first_child book) turns (list ++ children_to byte) before (ih (omega (arith, more))) size (omega (arith, more, length-append list (children_to byte)))
              r.0 (state.count + 1) byte (u ++ byte ∷ []) r.2 (last_byte_snoc u byte))
          go false h ih =
              rw (children_without byte h, noted_not byte h)
              (ih (omega (arith, ap length (children_without byte h))))

  -- ── Turn by turn ──

  abbrev list : ℕ → List (List ℕ)
  list i = listed (is_state book) byte_values i

  abbrev after : ℕ → Progress
  after i = after_turns text words tables i

  module _ (room : state_count book ≤ room_for_states) where
    turn_room : (i : ℕ) → length (list i) ≤ room_for_states
    unfolding first_child children_from
    turn_room i = omega (arith, first_child_inside book (given_bytes text words book gives) i)

    -- When its turn comes, a state has its number.
    in_time : (i : ℕ) → i < state_count book → i < length (list i)
    unfolding first_child children_from
    in_time i l = first_child_above book (given_bytes text words book gives) i l

    -- A turn numbers the children that the list gets in the same turn.
    turn_holds : (i : ℕ) → i < state_count book → (p : Progress) → Holds i (list i) p → Holds (suc i) (list (suc i)) (with_turn text words i p)
    unfolding with_turn state_stretch stretch_of first_child children_from
    turn_holds i l p held =
        let now : i < length (list i) = in_time i l in
        let u : List ℕ = get_or (list i) i [] in
        let turn : list (suc i) ≡ list i ++ children (is_state book) byte_values u = listed_turn (is_state book) byte_values i now in
        rw turn
        (held_children (state_stretch words p i) u (held.strings i now) (suc i) (list i) (with_first i p)
        (held_first text words tables (first_child book) i (list i) p held size (turn_room i) (omega (arith, room)) held.states) byte_values
        (omega (arith, turn_room (suc i), ap length turn, length-append (list i) (children (is_state book) byte_values u))))

    begun_holds : Holds 0 (list 0) (after 0)
    unfolding after_turns listed
    begun_holds = held_begun text words tables (first_child book) gives.inside

    turned : (i : ℕ) → i < (after i).states → after (suc i) ≡ with_turn text words i (after i)
    unfolding after_turns
    turned i h = rw (lt-ltb i (after i).states h)

    -- After so many turns the states are numbered that the list has after as many.
    pub after_holds : (i : ℕ) → i ≤ state_count book → Holds i (list i) (after i)
    after_holds zero l = begun_holds
    after_holds (suc i) l =
        let held : Holds i (list i) (after i) = after_holds i (omega arith) in
        rw (turned i (omega (arith, held.states, in_time i l))) (turn_holds i l (after i) held)
