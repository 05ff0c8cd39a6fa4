-- After as many turns as there are states the whole list is numbered, so every entry of the two regions is known.
-- Assumes nothing.
use mathlib.Core.Path.{◌≡◌, sym, ap, ◌∙◌}
use mathlib.Core.Logic.{◌⊎◌, inl, inr, ⊎_elim}
use mathlib.Core.List.{List}
use Prim.Native.Nat.{ℕ, zero, suc, ◌+◌, ◌*◌, ◌≤◌, ◌<◌}
use native.Mathlib.Omega.{arith}
use lib.ListN.{get_or}
use Rattle.meaning.specs.Books.{Book, keywords}
use Rattle.meaning.specs.Automaton.{is_state}
use Rattle.format.specs.Limits as limits
use Rattle.format.specs.Limits.{All}
use Rattle.format.specs.Prefixes.{prefix_count}
use Rattle.lent.specs.Zeros.{Zero}
use Rattle.lent.proofs.Cases.{lt_or_le}
use Rattle.numbering.specs.Listed.{listed}
use Rattle.numbering.specs.States.{byte_values, states_of, state_count, state_at, first_child, last_byte}
use Rattle.numbering.proofs.Count.{count_right}
use Rattle.numbering.proofs.States.{state_at_empty}
use Rattle.numbering.proofs.Children.{first_child_end}
use Rattle.tables.specs.Layout.{label_at, fail_at, child_at, piece_at, room_for_states, up_to, label_of}
use Rattle.tables.specs.Reads.{Whole, label_in, first_child_in}
use Rattle.tables.proofs.Parts.{number_zero}
use Rattle.tables.proofs.Fields.{up_to_below, up_to_past}
use Rattle.survey.specs.declared.stretch.Stretch.{Stretch}
use Rattle.filling.specs.Keywords.{Gives}
use Rattle.filling.specs.Turns.{Progress, with_first, after_turns, numbered, closed}
use Rattle.filling.specs.Filled.{StatesFilled}
use Rattle.filling.proofs.Given.{given_bytes}
use Rattle.filling.proofs.Held.{Held, held_first}
use Rattle.filling.proofs.Numbered.{after_holds}
use Rattle.filling.proofs.Going.{after_end}

module _ (text : List ℕ) (words : List Stretch) (book : Book) (gives : Gives text words book)
    (room : state_count book ≤ room_for_states) (tables : List ℕ) (size : Whole tables) where
  bytes : All limits.Bytes (keywords book.phrases)
  bytes = given_bytes text words book gives

  abbrev done : Progress
  done = numbered text words tables

  -- As many turns as there are states list them all.
  all_listed : listed (is_state book) byte_values (state_count book) ≡ states_of book
  unfolding states_of
  all_listed =
      let turns : state_count book ≡ suc (prefix_count (keywords book.phrases)) = omega (arith, count_right book bytes) in
      ap (listed (is_state book) byte_values) turns

  last_turn : Held text words tables (first_child book) (state_count book) (states_of book) (after_turns text words tables (state_count book))
  last_turn = rw all_listed at (after_holds text words book gives tables size room (state_count book) (omega arith))

  done_holds : Held text words tables (first_child book) (state_count book) (states_of book) done
  unfolding numbered state_count
  done_holds = rw (after_end text words tables (state_count book) room_for_states room (omega (arith, last_turn.states))) last_turn

  -- The code counts the states.
  pub count_filled : done.states ≡ state_count book
  unfolding state_count
  count_filled = done_holds.states

  -- Last, where the children of the last state end is written: as if it were the first child of one state more.
  closed_holds : Held text words tables (first_child book) (suc (state_count book)) (states_of book) (with_first (state_count book) done)
  unfolding state_count
  closed_holds = held_first text words tables (first_child book) (state_count book) (states_of book) done done_holds size room room (count_filled ∙ sym (first_child_end book bytes))

  abbrev final : List ℕ
  final = (with_first (state_count book) done).tables

  closed_is : closed done ≡ final
  unfolding closed
  closed_is = ap (λ n. (with_first n done).tables) count_filled

  module _ (labels-zero : Zero label_at fail_at tables) (children-zero : Zero child_at piece_at tables) where
    label_filled : (j : ℕ) → j < room_for_states → label_in final j ≡ up_to (state_count book) (label_of book) j
    unfolding label_of state_at state_count last_byte
    label_filled zero l =
        closed_holds.kept label_at (inl (omega arith)) ∙ labels-zero label_at (omega arith) (omega arith)
        ∙ sym (up_to_below (state_count book) (label_of book) 0 closed_holds.some ∙ ap last_byte (state_at_empty book))
    label_filled (suc j) l = ⊎_elim
        (λ (in_List : suc j < state_count book).
        closed_holds.labels (suc j) (omega arith) in_List ∙ sym (up_to_below (state_count book) (label_of book) (suc j) in_List))
        (λ (past : state_count book ≤ suc j).
        closed_holds.kept (label_at + suc j) (inr (inl (omega arith, omega arith))) ∙ labels-zero (label_at + suc j) (omega arith) (omega arith)
        ∙ sym (up_to_past (state_count book) (label_of book) (suc j) past))
        (lt_or_le (suc j) (state_count book))

    child_filled : (j : ℕ) → j ≤ room_for_states → first_child_in final j ≡ up_to (state_count book + 1) (first_child book) j
    child_filled j l = ⊎_elim
        (λ (in_List : j < state_count book + 1). closed_holds.firsts j (omega arith) ∙ sym (up_to_below (state_count book + 1) (first_child book) j in_List))
        (λ (past : state_count book + 1 ≤ j).
        number_zero 2 final (child_at + 2 * j) (λ k a b. closed_holds.kept k (inr (inr (omega arith))) ∙ children-zero k (omega arith) (omega arith))
        ∙ sym (up_to_past (state_count book + 1) (first_child book) j past))
        (lt_or_le j (state_count book + 1))

    kept_elsewhere : (k : ℕ) → (k < label_at) ⊎ (((fail_at ≤ k) × (k < child_at)) ⊎ (piece_at ≤ k)) → get_or final k 0 ≡ get_or tables k 0
    unfolding state_count
    kept_elsewhere k (inl h) = closed_holds.kept k (inl (omega arith))
    kept_elsewhere k (inr (inl h)) = closed_holds.kept k (inr (inl (omega (arith, h.0, room), h.1)))
    kept_elsewhere k (inr (inr h)) = closed_holds.kept k (inr (inr (omega (arith, room))))

    -- On memory whose labels and first children are zero, the numbering leaves exactly what the layout has for the book.
    pub states_filled : StatesFilled book tables (closed done)
    states_filled = rw closed_is (record { labels = label_filled; children = child_filled; kept = kept_elsewhere; whole = closed_holds.whole })
