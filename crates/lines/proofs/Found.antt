-- A search over the phrases, in rest form: the code of the phrases from here on is the code of all.
-- Assumes nothing.
use mathlib.Core.Path.{◌≡◌, refl, sym, ap, ◌∙◌}
use mathlib.Core.Bool.{Bool, true, false}
use mathlib.Core.List.{List}
use Prim.Native.Nat.{ℕ, zero, suc, ◌+◌, ◌-◌, ◌≤◌, ◌<◌}
use native.Mathlib.Omega.{arith}
use lib.Dec.{eqb}
use Rattle.tables.specs.Reads.{phrase_count_in, phrase_number_in}
use Rattle.lines.specs.Rights.{code_found, rights_from, rights_in}

module _ (t : List ℕ) (number phrases : ℕ) where
  pub search_start : phrases ≡ phrase_count_in t → rights_from t number 0 (phrases - 0) ≡ rights_in t number
  unfolding rights_in
  search_start counted = ap (rights_from t number 0) (omega (arith, counted))

  found : (j : ℕ) → j < phrases → eqb (phrase_number_in t j) number ≡ true → rights_from t number j (phrases - j) ≡ code_found t j
  unfolding rights_from
  found j inside same = go (phrases - j) refl
    where
      go : (left : ℕ) → left ≡ phrases - j → rights_from t number j left ≡ code_found t j
      go zero e = absurd (omega arith)
      go (suc left) e = rw same

  next : (j : ℕ) → j < phrases → eqb (phrase_number_in t j) number ≡ false
      → rights_from t number (j + 1) (phrases - (j + 1)) ≡ rights_from t number j (phrases - j)
  unfolding rights_from
  next j inside other = go (phrases - j) refl (phrases - (j + 1)) refl
    where
      go : (left : ℕ) → left ≡ phrases - j → (later : ℕ) → later ≡ phrases - (j + 1) → rights_from t number (j + 1) later ≡ rights_from t number j left
      go zero e later f = absurd (omega arith)
      go (suc left) e later f =
          let same : later ≡ left = omega arith in
          rw (other, same)

  pub search_end : (j : ℕ) → phrases ≤ j → 0 ≡ rights_from t number j (phrases - j)
  unfolding rights_from
  search_end j past = go (phrases - j) (omega arith)
    where
      go : (left : ℕ) → left ≡ 0 → 0 ≡ rights_from t number j left
      go zero e = refl
      go (suc left) e = absurd (omega arith)

  -- A turn looks at the phrase of rank j: its number is the wanted one, or it is not.
  module _ (j : ℕ) (inside : j < phrases) {has : Bool} (test : has ≡ eqb (phrase_number_in t j) number) where
    pub turn_found : has ≡ true → (code : ℕ) → code ≡ code_found t j → code ≡ rights_from t number j (phrases - j)
    turn_found same code its = its ∙ sym (found j inside (sym test ∙ same))

    pub turn_next : has ≡ false → rights_from t number (j + 1) (phrases - (j + 1)) ≡ rights_from t number j (phrases - j)
    turn_next other = next j inside (sym test ∙ other)
