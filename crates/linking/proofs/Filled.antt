-- The numbering fills two regions and the linking the one between them; neither touches what the other leaves, so all three are the
-- layout's for the book. Assumes nothing.
use mathlib.Core.Path.{◌≡◌, sym, ap, subst, ◌∙◌}
use mathlib.Core.Logic.{◌⊎◌, inl, inr, ⊎_elim}
use mathlib.Core.List.{List, [], ◌∷◌}
use Prim.Native.Nat.{ℕ, ◌+◌, ◌*◌, ◌≤◌, ◌<◌}
use native.Mathlib.Omega.{arith}
use lib.ListN.{get_or}
use Rattle.meaning.specs.Books.{Book, keywords}
use Rattle.format.specs.Limits.{All}
use Rattle.format.specs.Limits as limits
use Rattle.lent.specs.Numbers.{number_at}
use Rattle.lent.specs.Zeros.{Zero}
use Rattle.lent.proofs.Cases.{lt_or_le}
use Rattle.lent.proofs.Numbers.{number_agree}
use Rattle.numbering.specs.States.{state_count, first_child, failure_in}
use Rattle.tables.specs.Regions.{entry_length, HoldsParts, HoldsRegion}
use Rattle.tables.specs.Layout.{label_at, fail_at, child_at, piece_at, room_for_states, up_to, label_of, number, region}
use Rattle.tables.specs.Reads.{Whole, fail_in}
use Rattle.tables.proofs.Parts.{number_one, number_zero}
use Rattle.tables.proofs.Fields.{up_to_below, up_to_past}
use Rattle.stepping.specs.Held.{HoldsStates, HoldsFailures}
use Rattle.survey.specs.declared.stretch.Stretch.{Stretch}
use Rattle.filling.specs.Keywords.{Gives}
use Rattle.filling.specs.Turns.{numbered, closed}
use Rattle.filling.specs.Filled.{StatesFilled}
use Rattle.filling.proofs.Given.{given_bytes}
use Rattle.filling.proofs.Filled.{count_filled, states_filled}
use Rattle.linking.specs.Failures.{linked}
use Rattle.linking.specs.Filled.{Filled}
use Rattle.linking.proofs.Linked.{Sofar, linked_right}

-- A region whose entries are one number each.
pub one_number : (t : List ℕ) (offset entries width : ℕ) (value : ℕ → ℕ) → ((j : ℕ) → j < entries → number_at width t (offset + width * j) ≡ value j)
    → HoldsRegion t (region offset entries (number width value ∷ []))
unfolding HoldsRegion HoldsParts entry_length
one_number t offset entries width value holds j l = let e : width + 0 ≡ width = omega arith in rw e (holds j l, tt)

module _ (book : Book) (bytes : All limits.Bytes (keywords book.phrases)) (room : state_count book ≤ room_for_states) (before middle : List ℕ) (size : Whole before)
    (numbering : StatesFilled book before middle) (zero-failures : Zero fail_at child_at before) where
  abbrev after : List ℕ
  after = linked middle (state_count book)

  held : HoldsStates book middle
  held = record {
    labels = λ i l. numbering.labels i (omega arith) ∙ up_to_below (state_count book) (label_of book) i l;
    children = λ i l. numbering.children i (omega arith) ∙ up_to_below (state_count book + 1) (first_child book) i (omega arith);
  }

  still_zero : Zero fail_at child_at middle
  still_zero k a b = numbering.kept k (inr (inl (a, b))) ∙ zero-failures k a b

  done : Sofar book middle (state_count book) after
  done = linked_right book bytes room middle (omega (arith, numbering.whole)) held still_zero

  failure_filled : (j : ℕ) → j < room_for_states → fail_in after j ≡ up_to (state_count book) (failure_in book) j
  unfolding HoldsFailures
  failure_filled j l = ⊎_elim
      (λ (below : j < state_count book). done.failures j below ∙ sym (up_to_below (state_count book) (failure_in book) j below))
      (λ (past : state_count book ≤ j).
      number_zero 2 after (fail_at + 2 * j) (λ k a b. done.kept k (inr (omega arith)) ∙ still_zero k (omega arith) (omega arith))
      ∙ sym (up_to_past (state_count book) (failure_in book) j past))
      (lt_or_le j (state_count book))

  pub linked_filled : Filled book before after
  linked_filled = record {
    labels = one_number after label_at room_for_states 1 (up_to (state_count book) (label_of book)) (λ j l.
        number_agree 1 after middle (label_at + 1 * j) (λ k a b. done.kept k (inl (omega arith))) ∙ number_one middle (label_at + 1 * j)
        ∙ let e : label_at + 1 * j ≡ label_at + j = omega arith in ap (λ k. get_or middle k 0) e ∙ numbering.labels j l);
    failures = one_number after fail_at room_for_states 2 (up_to (state_count book) (failure_in book)) failure_filled;
    children = one_number after child_at (room_for_states + 1) 2 (up_to (state_count book + 1) (first_child book)) (λ j l.
        number_agree 2 after middle (child_at + 2 * j) (λ k a b. done.kept k (inr (omega arith))) ∙ numbering.children j (omega arith));
    kept = λ k e. done.kept k (outside k e) ∙ numbering.kept k (elsewhere k e);
    whole = done.whole ∙ numbering.whole;
  }
    where
      outside : (k : ℕ) → (k < label_at) ⊎ (piece_at ≤ k) → (k < fail_at) ⊎ (fail_at + 2 * state_count book ≤ k)
      outside k (inl e) = inl (omega arith)
      outside k (inr e) = inr (omega arith)

      elsewhere : (k : ℕ) → (k < label_at) ⊎ (piece_at ≤ k) → (k < label_at) ⊎ (((fail_at ≤ k) × (k < child_at)) ⊎ (piece_at ≤ k))
      elsewhere k (inl e) = inl e
      elsewhere k (inr e) = inr (inr e)

-- Both passes, one after the other, on memory whose three regions are zero: they hold what the layout has for the book.
pub filled : (text : List ℕ) (words : List Stretch) (book : Book) → Gives text words book → state_count book ≤ room_for_states
    → (tables : List ℕ) → Whole tables → Zero label_at piece_at tables
    → Filled book tables (linked (closed (numbered text words tables)) (numbered text words tables).states)
filled text words book gives room tables size zeros =
    subst
    (λ (states : ℕ). Filled book tables (linked (closed (numbered text words tables)) states))
    (sym (count_filled text words book gives room tables size))
    (linked_filled book (given_bytes text words book gives) room tables (closed (numbered text words tables)) size
    (states_filled text words book gives room tables size (λ k a b. zeros k (omega arith) (omega arith)) (λ k a b. zeros k (omega arith) (omega arith)))
    (λ k a b. zeros k (omega arith) (omega arith)))

-- What is filled can be walked: the tables hold the book's states and failures.
module _ (book : Book) (room : state_count book ≤ room_for_states) (before after : List ℕ) (done : Filled book before after) where
  pub states_held : HoldsStates book after
  unfolding HoldsRegion HoldsParts entry_length
  states_held = record {
    labels = λ i l.
        let e : label_at + i ≡ label_at + 1 * i = omega arith in
        ap (λ k. get_or after k 0) e ∙ sym (number_one after (label_at + 1 * i)) ∙ (done.labels i (omega arith)).0 ∙ up_to_below (state_count book) (label_of book) i l;
    children = λ i l. (done.children i (omega arith)).0 ∙ up_to_below (state_count book + 1) (first_child book) i (omega arith);
  }

  pub failures_held : HoldsFailures book after (state_count book)
  unfolding HoldsRegion HoldsParts entry_length HoldsFailures
  failures_held i l = (done.failures i (omega arith)).0 ∙ up_to_below (state_count book) (failure_in book) i l
