-- On the tables of a book the cell of a dense state is the next state, so the quick next state is the state after the letter and the byte; and the
-- steps of a byte are paid for by depths and gains. Assumes nothing.
use mathlib.Core.Path.{◌≡◌, sym, ap, ap₂, ◌∙◌}
use mathlib.Core.Logic.{◌⊎◌, inl, inr}
use mathlib.Core.Bool.{false, So}
use mathlib.Core.List.{List, [], ◌∷◌, ◌++◌}
use Prim.Native.Nat.{ℕ, ◌+◌, ◌-◌, ◌≤◌, ◌<◌}
use native.Mathlib.Omega.{arith}
use borrow.Author.Tests.{lt-ltb, le-ltb}
use Rattle.lent.proofs.Cases.{lt_or_le}
use Rattle.meaning.specs.Books.{Book, keywords}
use Rattle.meaning.specs.Automaton.{is_state, after, steps_for, depth}
use Rattle.meaning.proofs.Truth.{untrue}
use Rattle.meaning.proofs.After.{after_state}
use Rattle.meaning.proofs.States.{is_state_closed}
use Rattle.format.specs.Limits.{All, Bytes, Within}
use Rattle.numbering.specs.States.{byte_values, state_count, state_at, number_in, step_by}
use Rattle.numbering.specs.Walks.{Landed}
use Rattle.numbering.proofs.Keywords.{within_bytes, state_byte}
use Rattle.numbering.proofs.States.{number_below, state_at_number, number_empty}
use Rattle.numbering.proofs.Steps.{step_by_inside}
use Rattle.tables.specs.Regions.{Laid}
use Rattle.tables.specs.Classes.{occurs}
use Rattle.tables.specs.Layout.{dense_count, depth_of, gain_of, tables_layout}
use Rattle.tables.specs.Reads.{state_count_in, dense_in, column_in, depth_in, gain_in}
use Rattle.tables.proofs.Fields.{state_count_laid}
use Rattle.tables.proofs.Classes.{occurs_state, absent_empty, dense_range}
use Rattle.tables.proofs.Fast.{dense_laid, column_inside, cell_laid, depth_laid, gain_laid, gain_step}
use Rattle.stepping.specs.Steps.{next_in}
use Rattle.stepping.proofs.Right.{next_right}
use Rattle.stepping.proofs.Laid.{states_laid, failures_laid, next_after}
use Rattle.seeking.specs.Quick.{last_column, row_in, quick_in}
use Rattle.seeking.proofs.Seeking.{row_no_byte, row_cell}
use Rattle.seeking.proofs.Agree.{chosen, quick_agrees}

module _ (book : Book) (within : Within book) (t : List ℕ) (laid : Laid (tables_layout book) t) where
  bytes : All Bytes (keywords book.phrases)
  bytes = within_bytes book within

  -- ── The rows ──

  -- What is no byte stands in no keyword, and leads to the empty state.
  no_byte : (i byte : ℕ) → byte_values ≤ byte → (step_by book i byte).at ≡ 0
  unfolding step_by
  no_byte i byte large =
      let absent : occurs book byte ≡ false = untrue (occurs book byte) (λ h. let s = occurs_state book byte h in omega (arith, state_byte book bytes s.0 byte s.1)) in
      ap (number_in book) (absent_empty book (state_at book i) byte absent) ∙ number_empty book bytes

  row_right : (i byte : ℕ) → i < dense_count book → chosen (state_count book) (row_in t (state_count book) (dense_count book) i byte) ≡ (step_by book i byte).at
  row_right i byte row = go (lt_or_le byte byte_values)
    where
      go : (byte < byte_values) ⊎ (byte_values ≤ byte) → chosen (state_count book) (row_in t (state_count book) (dense_count book) i byte) ≡ (step_by book i byte).at
      go (inl is_byte_lem) =
          let early : column_in t byte ≤ last_column (dense_count book) = omega (arith, column_inside book within t laid byte (dense_count book - 1) is_byte_lem (omega arith)) in
          let cell : row_in t (state_count book) (dense_count book) i byte ≡ (step_by book i byte).at
          = row_cell t (state_count book) (dense_count book) byte is_byte_lem i early ∙ cell_laid book within t laid i byte row is_byte_lem in
          rw (cell, lt-ltb (step_by book i byte).at (state_count book) (step_by_inside book bytes i byte))
      go (inr large) =
          rw (row_no_byte t (state_count book) (dense_count book) byte large i, le-ltb (state_count book) (state_count book) (omega arith)) (sym (no_byte i byte large))

  -- ── The next state ──

  -- From the number of a state a byte leads to the number of the next state.
  pub quick_right : (i byte : ℕ) → i < state_count book → quick_in t (state_count_in t) (dense_in t) i byte ≡ (step_by book i byte).at
  quick_right i byte inside =
      let next : (j : ℕ) → j < state_count book → (next_in t (state_count book) j byte).at ≡ (step_by book j byte).at
      = λ j l. ap (λ (r : Landed). r.at) (next_right book bytes t (states_laid book within t laid) (state_count book) (omega arith) (failures_laid book within t laid) j byte l) in
      let range = dense_range book in
      ap₂ (λ (n d : ℕ). quick_in t n d i byte) (state_count_laid book within t laid) (dense_laid book within t laid)
      ∙ quick_agrees t (state_count book) (dense_count book) byte range.0 (λ j row. row_right j byte row ∙ sym (next j (omega (arith, range.1)))) i inside
      ∙ next i inside

  module _ (letter : List ℕ) (byte : ℕ) where
    abbrev before : ℕ
    before = number_in book (after (is_state book) letter)

    abbrev now : ℕ
    now = number_in book (after (is_state book) (letter ++ byte ∷ []))

    inside : before < state_count book
    inside = number_below book bytes (after (is_state book) letter) (after_state (is_state book) (is_state_closed book).empty letter)

    stepped : step_by book before byte ≡ record { at = now; taken = steps_for (is_state book) (after (is_state book) letter) byte }
    stepped =
        sym (next_right book bytes t (states_laid book within t laid) (state_count book) (omega arith) (failures_laid book within t laid) before byte inside)
        ∙ next_after book within t laid letter byte

    -- After a letter a byte leads to the state after both.
    pub quick_after : quick_in t (state_count_in t) (dense_in t) before byte ≡ now
    quick_after = quick_right before byte inside ∙ ap (λ (r : Landed). r.at) stepped

  -- ── Depths ──

  -- The depth of the state after a letter.
  pub depth_after : (letter : List ℕ) → depth_in t (number_in book (after (is_state book) letter)) ≡ depth (is_state book) (after (is_state book) letter)
  unfolding depth_of
  depth_after letter =
      let state : So (is_state book (after (is_state book) letter)) = after_state (is_state book) (is_state_closed book).empty letter in
      depth_laid book within t laid (number_in book (after (is_state book) letter)) (number_below book bytes (after (is_state book) letter) state)
      ∙ ap (depth (is_state book)) (state_at_number book bytes (after (is_state book) letter) state)

  -- The steps of the byte, the gain of the state after it, and its depth are one more than the depth before.
  pub steps_paid : (letter : List ℕ) (byte : ℕ)
      → steps_for (is_state book) (after (is_state book) letter) byte + gain_in t (number_in book (after (is_state book) (letter ++ byte ∷ [])))
      + depth (is_state book) (after (is_state book) (letter ++ byte ∷ [])) ≡ depth (is_state book) (after (is_state book) letter) + 1
  steps_paid letter byte =
      let there : now letter byte < state_count book = inside (letter ++ byte ∷ []) byte in
      let paid : steps_for (is_state book) (after (is_state book) letter) byte + gain_of book (now letter byte) + depth_of book (now letter byte) ≡ depth_of book (before letter byte) + 1
      = rw (stepped letter byte) at (gain_step book within (before letter byte) byte) in
      omega (
        arith,
        paid,
        gain_laid book within t laid (now letter byte) there,
        depth_laid book within t laid (now letter byte) there,
        depth_laid book within t laid (before letter byte) (inside letter byte),
        depth_after letter,
        depth_after (letter ++ byte ∷ []),
      )
