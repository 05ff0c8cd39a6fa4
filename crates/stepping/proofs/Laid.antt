-- Tables that are laid out for a book hold its states and failures, so a byte read after a letter leads to the state of both.
-- Assumes nothing.
use mathlib.Core.Path.{◌≡◌, sym, ap, ap₂, ◌∙◌}
use mathlib.Core.Bool.{So}
use mathlib.Core.List.{List, [], ◌∷◌, ◌++◌}
use Prim.Native.Nat.{ℕ}
use native.Mathlib.Omega.{arith}
use Rattle.meaning.specs.Books.{Book, keywords}
use Rattle.meaning.specs.Automaton.{is_state, after, steps_for}
use Rattle.meaning.proofs.After.{after_state, after_step}
use Rattle.meaning.proofs.States.{is_state_closed}
use Rattle.format.specs.Limits.{All, Bytes, Within}
use Rattle.numbering.specs.States.{state_count, state_at, number_in, step_by}
use Rattle.numbering.specs.Walks.{Landed}
use Rattle.numbering.proofs.Keywords.{within_bytes}
use Rattle.numbering.proofs.States.{number_below, state_at_number}
use Rattle.tables.specs.Regions.{Laid}
use Rattle.tables.specs.Layout.{tables_layout}
use Rattle.tables.proofs.Fields.{label_laid, fail_laid, first_child_laid}
use Rattle.stepping.specs.Steps.{next_in}
use Rattle.stepping.specs.Held.{HoldsStates, HoldsFailures}
use Rattle.stepping.proofs.Right.{next_right}

module _ (book : Book) (within : Within book) (t : List ℕ) (laid : Laid (tables_layout book) t) where
  pub states_laid : HoldsStates book t
  states_laid = record { labels = label_laid book within t laid; children = first_child_laid book within t laid }

  pub failures_laid : HoldsFailures book t (state_count book)
  unfolding HoldsFailures
  failures_laid = fail_laid book within t laid

  -- From the number of the state after a letter, a byte leads to the number of the state after the letter and the byte, and
  -- takes as many failure steps as document 01 counts.
  pub next_after : (letter : List ℕ) (byte : ℕ) → next_in t (state_count book) (number_in book (after (is_state book) letter)) byte
      ≡ record { at = number_in book (after (is_state book) (letter ++ byte ∷ [])); taken = steps_for (is_state book) (after (is_state book) letter) byte }
  unfolding step_by
  next_after letter byte =
      let bytes : All Bytes (keywords book.phrases) = within_bytes book within in
      let here : So (is_state book (after (is_state book) letter)) = after_state (is_state book) (is_state_closed book).empty letter in
      let string : state_at book (number_in book (after (is_state book) letter)) ≡ after (is_state book) letter = state_at_number book bytes (after (is_state book) letter) here in
      next_right book bytes t states_laid (state_count book) (omega arith) failures_laid (number_in book (after (is_state book) letter)) byte (number_below book bytes (after (is_state book) letter) here)
      ∙ ap₂ {C = Landed} (λ at taken. record { at = at; taken = taken })
      (ap (number_in book) (ap {B = List ℕ} (λ u. after (is_state book) (u ++ byte ∷ [])) string ∙ sym (after_step (is_state book) (is_state_closed book) letter byte)))
      (ap (λ u. steps_for (is_state book) u byte) string)
