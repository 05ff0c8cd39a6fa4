-- One turn of the four cursors: a cell of a column that fits is what is found, and what is found says the next state.
-- Assumes nothing.
use mathlib.Core.Path.{◌≡◌, refl, sym, ap, ◌∙◌}
use mathlib.Core.Logic.{⊎_elim}
use mathlib.Core.Bool.{true, cond}
use mathlib.Core.List.{List}
use Prim.Native.Nat.{ℕ, zero, suc, ◌+◌, ◌≤◌, ◌<◌}
use native.Mathlib.Omega.{arith}
use lib.Dec.{ltb}
use lib.ListN.{length, get_or, length-set}
use lib.Seq.{get_or-set_same, get_or-set_other}
use Rattle.tables.specs.Layout.{room_for_states}
use Rattle.tables.specs.Reads.{Whole, dense_in, column_in, cell_in}
use Rattle.seeking.specs.Quick.{sought_in, quick_in}
use Rattle.seeking.proofs.Seeking.{row_cell, sought_dense}
use Rattle.seeking.proofs.Found.{quick_found, quick_inside}
use Rattle.ahead.specs.Columns.{columns_fit}
use Rattle.ahead.specs.Cursors.{cursor, Below, ColumnOf, with_first}
use Rattle.lent.proofs.Cases.{eq_or_ne}
use Rattle.ahead.proofs.Fits.{columns_within}

-- ── One cell ──

-- Where the columns fit, that of a byte does.
pub column_of_lem : (t : List ℕ) (dense byte column : ℕ) → Whole t → columns_fit t ≡ true → dense ≡ dense_in t → dense ≤ room_for_states → byte < 256 → column ≡ column_in t byte
    → ColumnOf t dense byte column
column_of_lem t dense byte column whole fit rows few small is = record { tables = whole; small = small; is = is; fits = omega (arith, columns_within t fit byte small) }

module _ (t : List ℕ) (dense index byte column : ℕ) (of : ColumnOf t dense byte column) (row : index < dense) where
  pub cell_found : (states found : ℕ) → found ≡ cell_in t column index → found ≡ sought_in t states dense index byte
  cell_found states found e =
      e ∙ ap (λ (c : ℕ). cell_in t c index) of.is
      ∙ sym (sought_dense t states dense byte (omega arith) index row ∙ row_cell t states dense byte of.small index (omega (arith, of.is, of.fits)))

-- ── The next state ──

module _ (t : List ℕ) (states dense index byte found : ℕ) (is : found ≡ sought_in t states dense index byte) where
  -- What is found is a state.
  pub found_quick : found < states → found ≡ quick_in t states dense index byte
  found_quick l = is ∙ sym (quick_found t states dense index byte (omega (arith, is)))

  -- Whatever is found.
  pub chosen_quick : (next : ℕ) → next ≡ cond (ltb found states) found 0 → next ≡ quick_in t states dense index byte
  unfolding quick_in
  chosen_quick next e = rw (← is) e

  pub chosen_inside : 0 < states → (next : ℕ) → next ≡ cond (ltb found states) found 0 → next < states
  chosen_inside some next e = omega (arith, chosen_quick next e, quick_inside t states dense index byte some)

-- ── The four of them ──

-- What holds of the first four numbers holds of each below four.
pub each_quarter : (P : ℕ → Type 0) → P 0 → P 1 → P 2 → P 3 → (k : ℕ) → k < 4 → P k
each_quarter P a b c d zero l = a
each_quarter P a b c d (suc zero) l = b
each_quarter P a b c d (suc (suc zero)) l = c
each_quarter P a b c d (suc (suc (suc zero))) l = d
each_quarter P a b c d (suc (suc (suc (suc k)))) l = absurd (omega arith)

module _ (limit : ℕ) (cursors : List ℕ) where
  pub below_more : (more : ℕ) → limit ≤ more → Below limit cursors → Below more cursors
  below_more more l below = record { each = λ k few. omega (arith, below.each k few) }

-- ── Four numbers written one after the other ──

module _ (ahead : List ℕ) (at : ℕ) (cursors : List ℕ) where
  pub length_first : (n : ℕ) → length (with_first ahead at cursors n) ≡ length ahead
  unfolding with_first
  length_first zero = refl
  length_first (suc n) = length-set (with_first ahead at cursors n) (at + n) _ ∙ length_first n

  -- A number that is none of them is as it was.
  pub first_others : (n p : ℕ) → ((k : ℕ) → k < n → p ≡ at + k → ⊥) → get_or (with_first ahead at cursors n) p 0 ≡ get_or ahead p 0
  unfolding with_first
  first_others zero p apart = refl
  first_others (suc n) p apart =
      get_or-set_other (with_first ahead at cursors n) (at + n) p _ 0 (apart n (omega arith)) ∙ first_others n p (λ k l. apart k (omega arith))

  pub first_there : (n : ℕ) → at + n ≤ length ahead → (k : ℕ) → k < n → get_or (with_first ahead at cursors n) (at + k) 0 ≡ cursor cursors k
  unfolding with_first
  first_there zero room k l = absurd (omega arith)
  first_there (suc n) room k l = ⊎_elim
      (λ (e : k ≡ n). rw e (get_or-set_same (with_first ahead at cursors n) (at + n) _ 0 (omega (arith, length_first n)) ∙ ap (cursor cursors) (omega arith)))
      (λ (d : k ≡ n → ⊥). get_or-set_other (with_first ahead at cursors n) (at + n) (at + k) _ 0 (λ e. d (omega arith)) ∙ first_there n (omega arith) k (omega arith))
      (eq_or_ne k n)
