-- A letter in parts: each call adds the reports and steps of the bytes that it takes, so all calls together give those of the letter.
-- Assumes nothing.
use mathlib.Core.Path.{◌≡◌, sym, ◌∙◌}
use mathlib.Core.List.{List, [], ◌∷◌, ◌++◌, append_assoc, append-nil}
use Prim.Native.Nat.{ℕ, ◌+◌, ◌≤◌}
use native.Mathlib.Omega.{arith}
use lib.ListN.{length, take}
use Rattle.meaning.specs.Books.{Book}
use Rattle.meaning.specs.Reports.{reports}
use Rattle.meaning.specs.Automaton.{steps}
use Rattle.meaning.specs.Calls.{takes, Call, joined}
use Rattle.meaning.proofs.Depth.{steps_at_most}
use Rattle.meaning.proofs.Cuts.{reports_cut, steps_cut}

module _ (book : Book) where
  -- After the bytes x, the reports and steps of any calls are what those of all bytes read have more than those of x.
  pub calls_right : (x : List ℕ) (calls : List Call)
      → (reports book (joined book x calls).read ≡ reports book x ++ (joined book x calls).hits)
      × (steps book (joined book x calls).read ≡ steps book x + (joined book x calls).steps)
  unfolding joined
  calls_right x [] = (sym (append-nil (reports book x)), omega arith)
  calls_right x (call ∷ rest) =
      let y : List ℕ = take (takes book x call.part call.room) call.part in
      let r = calls_right (x ++ y) rest in
      (r.0 ∙ rw (reports_cut book x y, append_assoc), omega (arith, r.1, steps_cut book x y))

  -- From the letter's start: the reports of any calls, joined, are those of the bytes read.
  pub calls_reports : (calls : List Call) → reports book (joined book [] calls).read ≡ (joined book [] calls).hits
  unfolding reports
  calls_reports calls = (calls_right [] calls).0

  -- So are the steps, added up, and they are at most one for each byte read.
  pub calls_steps : (calls : List Call) → steps book (joined book [] calls).read ≡ (joined book [] calls).steps
  unfolding steps
  calls_steps calls = omega (arith, (calls_right [] calls).1)

  pub calls_steps_at_most : (calls : List Call) → (joined book [] calls).steps ≤ length (joined book [] calls).read
  calls_steps_at_most calls = omega (arith, calls_steps calls, steps_at_most book (joined book [] calls).read)
