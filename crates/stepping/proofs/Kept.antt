-- What table memory holds of states and failures depends on three regions alone, so it holds still when other bytes change.
-- Assumes nothing.
use mathlib.Core.Path.{◌≡◌, ◌∙◌}
use mathlib.Core.List.{List}
use Prim.Native.Nat.{ℕ, ◌+◌, ◌*◌, ◌≤◌, ◌<◌}
use native.Mathlib.Omega.{arith}
use lib.ListN.{get_or}
use Rattle.meaning.specs.Books.{Book}
use Rattle.lent.proofs.Numbers.{number_agree}
use Rattle.numbering.specs.States.{state_count}
use Rattle.tables.specs.Layout.{label_at, fail_at, child_at, piece_at, room_for_states}
use Rattle.stepping.specs.Held.{HoldsStates, HoldsFailures}

module _ (book : Book) (room : state_count book ≤ room_for_states) (before after : List ℕ)
    (same : (k : ℕ) → label_at ≤ k → k < piece_at → get_or after k 0 ≡ get_or before k 0) where
  pub states_kept : HoldsStates book before → HoldsStates book after
  states_kept held = record {
    labels = λ i l. same (label_at + i) (omega arith) (omega arith) ∙ held.labels i l;
    children = λ i l. number_agree 2 after before (child_at + 2 * i) (λ k a b. same k (omega arith) (omega arith)) ∙ held.children i l;
  }

  pub failures_kept : (below : ℕ) → below ≤ state_count book → HoldsFailures book before below → HoldsFailures book after below
  unfolding HoldsFailures
  failures_kept below few held i l = number_agree 2 after before (fail_at + 2 * i) (λ k a b. same k (omega arith) (omega arith)) ∙ held i l
