-- However far the numbering is, there is room for it: it numbers the states of a book with these keywords, and those are few enough.
-- Assumes nothing.
use mathlib.Core.Path.{◌≡◌, refl, sym, ap, ◌∙◌}
use mathlib.Core.Logic.{⊎_elim}
use mathlib.Core.List.{List}
use Prim.Native.Nat.{ℕ, zero, suc, ◌+◌, ◌≤◌, ◌<◌}
use native.Mathlib.Nat.{le-suc_iff}
use native.Mathlib.Numerals.{add-one}
use native.Mathlib.Omega.{arith}
use lib.ListN.{length, get_or}
use borrow.Author.Tests.{lt-ltb, le-ltb}
use Rattle.meaning.specs.Books.{Book}
use Rattle.format.specs.Limits.{longest_keyword, most_prefixes}
use Rattle.format.specs.Prefixes.{prefix_count}
use Rattle.lent.specs.Numbers.{Bytes}
use Rattle.numbering.specs.Listed.{children_from}
use Rattle.numbering.specs.States.{state_count, first_child}
use Rattle.numbering.proofs.Count.{count_right}
use Rattle.numbering.proofs.Children.{first_child_inside}
use Rattle.tables.specs.Layout.{room_for_states}
use Rattle.tables.specs.Reads.{Whole}
use Rattle.survey.specs.declared.stretch.Stretch.{Stretch}
use Rattle.filling.specs.Keywords.{keywords_in, Inside, Gives}
use Rattle.filling.specs.Turns.{Progress, root, stretch_of, state_stretch, begun, with_turn, after_turns, numbered}
use Rattle.filling.proofs.Given.{book_with, keywords_with, given_bytes}
use Rattle.filling.proofs.Numbered.{after_holds}

module _ (text : List ℕ) (words : List Stretch) (tables : List ℕ) where
  abbrev taken : ℕ → Progress
  taken i = after_turns text words tables i

  -- A number that no state has gets no turn,
  no_turn : (j : ℕ) → (taken j).states ≤ j → taken (suc j) ≡ taken j
  unfolding after_turns
  no_turn j h = rw (le-ltb j (taken j).states h)

  -- so that past the last numbered state there is none.
  pub after_end : (i j : ℕ) → i ≤ j → (taken i).states ≤ i → taken j ≡ taken i
  after_end i zero h l = ap taken (omega arith)
  after_end i (suc j) h l = ⊎_elim
      (λ (k : i ≤ j).
      let e : taken j ≡ taken i = after_end i j k l in
      no_turn j (omega (arith, ap (λ (p : Progress). p.states) e)) ∙ e)
      (λ (e : i ≡ suc j). ap taken (sym e))
      (le-suc_iff.0 h)

-- A book with the keywords that are given.
abbrev pub given : List ℕ → List Stretch → Book
given text words = book_with (keywords_in text words)

-- So many turns were taken, none for a number that no state has, and there is room for all that is numbered.
pub record Going (text : List ℕ) (words : List Stretch) (tables : List ℕ) (turn : ℕ) (p : Progress) : Type 0 where
  pub reached : turn ≤ state_count (given text words)
  pub is : p ≡ after_turns text words tables turn
  pub turns : turn ≤ room_for_states
  pub states : p.states ≤ room_for_states

pub going_start : (text : List ℕ) (words : List Stretch) (tables : List ℕ) → Going text words tables 0 (begun tables)
unfolding after_turns
going_start text words tables = record { reached = omega arith; is = refl; turns = omega arith; states = omega arith }

module _ (text : List ℕ) (words : List Stretch) (tables : List ℕ) (turn : ℕ) (p : Progress) (going : Going text words tables turn p) where
  abbrev after : ℕ → Progress
  after i = after_turns text words tables i

  same_states : p.states ≡ (after turn).states
  same_states = ap (λ (q : Progress). q.states) going.is

  module _ (size : Whole tables) (bytes : Bytes text) (inside : Inside text words) (few : prefix_count (keywords_in text words) ≤ most_prefixes) (more : turn < p.states) where
    abbrev book : Book
    book = given text words

    gives : Gives text words book
    gives = record { bytes = bytes; inside = inside; all = sym (keywords_with (keywords_in text words)) }

    room : state_count book ≤ room_for_states
    room = omega (arith, count_right book (given_bytes text words book gives), ap prefix_count (keywords_with (keywords_in text words)))

    -- After any turns no more states have a number than the book has states.
    fits : (i : ℕ) → i ≤ state_count book → (after i).states ≤ state_count book
    unfolding first_child children_from
    fits i l = omega (arith, (after_holds text words book gives tables size room i l).states, first_child_inside book (given_bytes text words book gives) i)

    on : turn < state_count book
    on = omega (arith, fits turn going.reached, same_states)

    turned : with_turn text words turn p ≡ after (suc turn)
    unfolding after_turns
    turned = rw (lt-ltb turn (after turn).states (rw going.is at more), going.is) refl

    -- The state whose turn it is stands in the text.
    pub going_stands : ((state_stretch words p turn).offset + (get_or p.starts turn root).count ≤ length text) × ((get_or p.starts turn root).count ≤ longest_keyword)
    unfolding state_stretch stretch_of
    going_stands =
        let held = after_holds text words book gives tables size room turn going.reached in
        let s = held.strings turn (omega (arith, same_states, held.states)) in
        rw going.is (s.inside, s.short)

    -- There is room for its children.
    pub going_room : (with_turn text words turn p).states ≤ room_for_states
    going_room = rw turned (omega (arith, room, fits (suc turn) on))

    pub going_further : (next : Progress) → next ≡ with_turn text words turn p → Going text words tables (turn + 1) next
    going_further next e = record {
      reached = omega (arith, on);
      is = rw add-one (e ∙ turned);
      turns = omega (arith, on, room);
      states = rw e going_room;
    }

  -- When every numbered state has had its turn, the numbering is done.
  pub going_done : p.states ≤ turn → p ≡ numbered text words tables
  unfolding numbered
  going_done h = going.is ∙ sym (after_end text words tables turn room_for_states going.turns (rw going.is at h))
