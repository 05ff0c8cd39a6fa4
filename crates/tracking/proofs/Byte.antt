-- One byte, all of it: what the scan does at a place to the memory and to the room is what the definition says of the place.
-- Assumes nothing.
use mathlib.Core.Path.{◌≡◌, ◌∙◌}
use mathlib.Core.Logic.{inl}
use mathlib.Core.List.{List, [], ◌∷◌, ◌++◌}
use Prim.Native.Nat.{ℕ, suc, ◌<◌}
use native.Mathlib.Numerals.{add-one}
use native.Mathlib.Omega.{arith}
use lib.ListN.{length, length-append}
use Rattle.lent.specs.Numbers.{Bytes}
use Rattle.meaning.specs.Books.{Book}
use Rattle.meaning.specs.Reports.{reports_at}
use Rattle.meaning.specs.Automaton.{is_state, after}
use Rattle.format.specs.Limits.{Within}
use Rattle.numbering.specs.States.{number_in}
use Rattle.tables.specs.Regions.{Laid}
use Rattle.tables.specs.Layout.{tables_layout}
use Rattle.running.specs.Layout.{running_layout}
use Rattle.running.specs.Reads.{WholeRunning}
use Rattle.running.specs.Held.{Windows}
use Rattle.running.proofs.Held.{laid_held}
use Rattle.marks.specs.Marked.{no_marks}
use Rattle.window.specs.Opening.{slot_opened}
use Rattle.window.specs.Ending.{pieces_in}
use Rattle.window.specs.Happened.{Here, ended_at, happened}
use Rattle.window.proofs.Opening.{length_slot}
use Rattle.window.proofs.Ending.{length_pieces}
use Rattle.tracking.specs.Head.{moved_to}
use Rattle.tracking.specs.Reports.{with_these}
use Rattle.window.proofs.Step.{windows_step, marks_step, elsewhere_step, bytes_step}
use Rattle.tracking.proofs.Head.{laid_moved}
use Rattle.tracking.proofs.Reports.{reported_reports}

module _ (book : Book) (limits : Within book) (t : List ℕ) (laid : Laid (tables_layout book) t) (tables_bytes : Bytes t)
    (x : List ℕ) (a : ℕ) (early : suc (length x) < 4294967296) where
  abbrev now : List ℕ
  now = x ++ a ∷ []

  abbrev here : ℕ
  here = suc (length x)

  -- The number of the state after the byte.
  abbrev state : ℕ
  state = number_in book (after (is_state book) now)

  -- The windows are the book's after the byte, and the reports of the new place stand behind those of before.
  module _ (before : Here) (whole : WholeRunning before.memory) (windows : Windows book x before.memory) where
    pub happened_windows : Windows book now (happened t state here before).memory
    unfolding happened
    happened_windows = windows_step book limits t laid tables_bytes x a early before.memory whole windows

    pub happened_reports : (happened t state here before).reports ≡ with_these (reports_at book now here) before.reports
    unfolding happened
    happened_reports = reported_reports book limits t laid now here (ended_at t state here before.memory).marks
        (marks_step book limits t laid tables_bytes x a early before.memory whole windows) before.reports

  long_after : (m : List ℕ) → length (ended_at t state here m).memory ≡ length m
  unfolding ended_at
  long_after m = length_pieces t here (pieces_in t state) (record { marks = no_marks; memory = slot_opened t m here }) ∙ length_slot t m here

  -- With its state and its place written, the memory is the book's after the byte.
  pub laid_step : (m : List ℕ) → WholeRunning m → Bytes m → Laid (running_layout book x) m
      → Laid (running_layout book now) (moved_to (ended_at t state here m).memory state here)
  laid_step m whole bytes memory =
      let windows : Windows book x m = (laid_held book x m memory).windows in
      let after : List ℕ = (ended_at t state here m).memory in
      let long : length now ≡ here = rw (length-append x (a ∷ []), add-one) in
      rw long at (laid_moved book limits x now m after
      (rw (long_after m) whole)
      (bytes_step book limits t laid tables_bytes x a early m whole windows bytes)
      (rw long (omega arith)) memory
      (λ i below. elsewhere_step book limits t laid tables_bytes x a early m whole windows i (inl below))
      (windows_step book limits t laid tables_bytes x a early m whole windows))
