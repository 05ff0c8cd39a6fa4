-- Where the rows of the dense states say what the searched step says, the quick next state is where the searched step leads: from any
-- other state both look for the child, and go on from the failure. Assumes nothing.
use mathlib.Core.Path.{◌≡◌, sym, ap, ◌∙◌}
use mathlib.Core.Logic.{◌⊎◌, inl, inr}
use mathlib.Core.Bool.{cond}
use mathlib.Core.List.{List}
use Prim.Native.Nat.{ℕ, zero, suc, ◌≤◌, ◌<◌}
use native.Mathlib.Omega.{arith}
use lib.Dec.{ltb}
use borrow.Author.Tests.{lt-ltb}
use Rattle.lent.proofs.Cases.{lt_or_le, eq_or_ne}
use Rattle.numbering.specs.Walks.{Landed}
use Rattle.tables.specs.Reads.{back_in}
use Rattle.tables.proofs.Followed.{back_below}
use Rattle.stepping.specs.Steps.{child_by_in, next_in}
use Rattle.stepping.proofs.Turns.{next_forward, next_back}
use Rattle.stepping.proofs.Right.{child_below}
use Rattle.seeking.specs.Quick.{row_in, sought_in, quick_in}
use Rattle.seeking.proofs.Seeking.{sought_dense, sought_child, sought_back}

-- A number that was found, where it is a state's; else the root.
abbrev pub chosen : ℕ → ℕ → ℕ
chosen states found = cond (ltb found states) found 0

module _ (t : List ℕ) (states dense byte : ℕ) (some_dense : 1 ≤ dense) where
  -- The row of each dense state says where the searched step leads.
  abbrev pub RowsAgree : Type 0
  RowsAgree = (i : ℕ) → i < dense → chosen states (row_in t states dense i byte) ≡ (next_in t states i byte).at

  module _ (agree : RowsAgree) where
    sought_agrees : (fuel i : ℕ) → i < fuel → i < states → chosen states (sought_in t states dense i byte) ≡ (next_in t states i byte).at
    sought_agrees zero i l inside = absurd (omega arith)
    sought_agrees (suc fuel) i l inside = go (lt_or_le i dense) (eq_or_ne (child_by_in t states i byte) 0) (sought_agrees fuel (back_in t i))
      where
        go : (i < dense) ⊎ (dense ≤ i) → (child_by_in t states i byte ≡ 0) ⊎ (child_by_in t states i byte ≡ 0 → ⊥)
            → (back_in t i < fuel → back_in t i < states → chosen states (sought_in t states dense (back_in t i) byte) ≡ (next_in t states (back_in t i) byte).at)
            → chosen states (sought_in t states dense i byte) ≡ (next_in t states i byte).at
        go (inl row) child rest = ap (chosen states) (sought_dense t states dense byte some_dense i row) ∙ agree i row
        go (inr deep) (inr some) rest =
            ap (chosen states) (sought_child t states dense byte some_dense i deep some)
            ∙ inside_chosen (child_by_in t states i byte) (child_below t states i byte (omega arith))
            ∙ sym (ap (λ (l : Landed). l.at) (next_forward t states byte i some))
          where
            inside_chosen : (found : ℕ) → found < states → chosen states found ≡ found
            inside_chosen found h = rw (lt-ltb found states h)
        go (inr deep) (inl none) rest =
            let smaller : back_in t i < i = back_below t i (omega arith) in
            ap (chosen states) (sought_back t states dense byte some_dense i deep none)
            ∙ rest (omega arith) (omega arith)
            ∙ sym (ap (λ (l : Landed). l.at) (next_back t states byte i (omega arith) none))

    pub quick_agrees : (i : ℕ) → i < states → quick_in t states dense i byte ≡ (next_in t states i byte).at
    unfolding quick_in
    quick_agrees i inside = sought_agrees (suc i) i (omega arith) inside
