-- What is found for a byte, one state after the other: a row decides it, a child decides it, or the failure goes on with a smaller number.
-- Assumes nothing.
use mathlib.Core.Path.{◌≡◌, refl, sym, ap, ◌∙◌}
use mathlib.Core.Bool.{Bool, true, false, cond}
use mathlib.Core.List.{List}
use Prim.Native.Nat.{ℕ, zero, suc, ◌≤◌, ◌<◌}
use native.Mathlib.Omega.{arith}
use lib.Dec.{ltb, eqb}
use borrow.Author.Tests.{lt-ltb, le-ltb, le-leb, lt-leb, eq-eqb, ne_eqb, ltb-false}
use Rattle.tables.specs.Reads.{cell_in, back_in}
use Rattle.tables.proofs.Followed.{back_below}
use Rattle.stepping.specs.Steps.{child_by_in}
use Rattle.seeking.specs.Quick.{column_for, last_column, has_column, row_in, rows_end, sought_within, sought_in}

-- The number at which the walk goes on is that of the failure, and smaller.
pub smaller : (t : List ℕ) (from state back next : ℕ) → 0 < from → state ≡ from → back ≡ back_in t state → next ≡ back → (next ≡ back_in t from) × (next < from)
smaller t from state back next some is e f =
    let failed : next ≡ back_in t from = f ∙ e ∙ ap (back_in t) is in
    (failed, omega (arith, failed, back_below t from some))

module _ (t : List ℕ) (states dense byte : ℕ) where
  -- ── The row of a dense state ──

  pub row_no_byte : 256 ≤ byte → (i : ℕ) → row_in t states dense i byte ≡ states
  unfolding row_in has_column
  row_no_byte large i = rw (le-ltb byte 256 large)

  module _ (is_byte_lem : byte < 256) (i : ℕ) where
    pub row_none : last_column dense < column_for t byte → row_in t states dense i byte ≡ states
    unfolding row_in has_column
    row_none late = rw (lt-ltb byte 256 is_byte_lem, lt-leb (column_for t byte) (last_column dense) late)

    pub row_cell : column_for t byte ≤ last_column dense → row_in t states dense i byte ≡ cell_in t (column_for t byte) i
    unfolding row_in has_column
    row_cell early = rw (lt-ltb byte 256 is_byte_lem, le-leb (column_for t byte) (last_column dense) early)

  -- ── So many states ──

  within_dense : (most i : ℕ) → i < dense → sought_within t states dense (suc most) i byte ≡ row_in t states dense i byte
  unfolding sought_within
  within_dense most i l = rw (lt-ltb i (rows_end dense) (omega arith))

  within_child : (most i : ℕ) → dense ≤ i → (child_by_in t states i byte ≡ 0 → ⊥) → sought_within t states dense (suc most) i byte ≡ child_by_in t states i byte
  unfolding sought_within
  within_child most i l some = rw (le-ltb i (rows_end dense) (omega arith), ne_eqb (child_by_in t states i byte) 0 some)

  within_back : (most i : ℕ) → dense ≤ i → child_by_in t states i byte ≡ 0
      → sought_within t states dense (suc most) i byte ≡ sought_within t states dense most (back_in t i) byte
  unfolding sought_within
  within_back most i l none = rw (le-ltb i (rows_end dense) (omega arith), eq-eqb (child_by_in t states i byte) 0 none)

  module _ (some_dense : 1 ≤ dense) where
    -- Looking at more states than there are smaller numbers finds the same.
    within_enough : (f g i : ℕ) → i < f → i < g → sought_within t states dense f i byte ≡ sought_within t states dense g i byte
    unfolding sought_within
    within_enough zero g i l h = absurd (omega arith)
    within_enough (suc f) zero i l h = absurd (omega arith)
    within_enough (suc f) (suc g) i l h = go (ltb i (rows_end dense)) refl (eqb (child_by_in t states i byte) 0) (within_enough f g (back_in t i))
      where
        child : ℕ
        child = child_by_in t states i byte

        go : (v : Bool) → ltb i (rows_end dense) ≡ v → (w : Bool)
            → (back_in t i < f → back_in t i < g → sought_within t states dense f (back_in t i) byte ≡ sought_within t states dense g (back_in t i) byte)
            → cond v (row_in t states dense i byte) (cond w (sought_within t states dense f (back_in t i) byte) child)
            ≡ cond v (row_in t states dense i byte) (cond w (sought_within t states dense g (back_in t i) byte) child)
        go true e w rest = refl
        go false e false rest = refl
        go false e true rest =
            let smaller : back_in t i < i = back_below t i (omega (arith, ltb-false i (rows_end dense) e)) in
            rest (omega arith) (omega arith)

    -- ── All of them ──

    pub sought_dense : (i : ℕ) → i < dense → sought_in t states dense i byte ≡ row_in t states dense i byte
    unfolding sought_in
    sought_dense i l = within_dense i i l

    pub sought_child : (i : ℕ) → dense ≤ i → (child_by_in t states i byte ≡ 0 → ⊥) → sought_in t states dense i byte ≡ child_by_in t states i byte
    unfolding sought_in
    sought_child i l some = within_child i i l some

    pub sought_back : (i : ℕ) → dense ≤ i → child_by_in t states i byte ≡ 0 → sought_in t states dense i byte ≡ sought_in t states dense (back_in t i) byte
    unfolding sought_in
    sought_back i l none =
        within_back i i l none ∙ within_enough i (suc (back_in t i)) (back_in t i) (back_below t i (omega arith)) (omega arith)

    -- ── One turn: the state at hand, the child found for it, and its failure ──

    module _ (from state child : ℕ) (is : state ≡ from) (deep : dense ≤ from) (found : child ≡ child_by_in t states state byte) where
      pub turn_child : (child ≡ 0 → ⊥) → sought_in t states dense from byte ≡ child
      turn_child some =
          let e : child ≡ child_by_in t states from byte = rw is at found in
          sought_child from deep (λ z. some (e ∙ z)) ∙ sym e

      pub turn_back : child ≡ 0 → (back : ℕ) → back ≡ back_in t from → sought_in t states dense from byte ≡ sought_in t states dense back byte
      turn_back none back e = rw e (sought_back from deep (sym (rw is at found) ∙ none))
