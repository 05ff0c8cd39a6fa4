-- A column of a table is read as a list: one entry more is one element more at its end. Assumes nothing.
use mathlib.Core.Path.{◌≡◌, refl, sym, ◌∙◌}
use mathlib.Core.Logic.{⊎_elim}
use mathlib.Core.List.{List, [], ◌∷◌, ◌++◌, map, map-append}
use Prim.Native.Nat.{ℕ, zero, suc, ◌≤◌, ◌<◌}
use native.Mathlib.Omega.{arith}
use lib.ListN.{length, get_or, length-map, length-append, get_or-append, get_or-eq_default}
use lib.Seq.{get_or-append_seam}
use borrow.Author.Tests.{lt-ltb, le-ltb}
use Rattle.lent.proofs.Cases.{lt_or_le, eq_or_ne}
use Rattle.tables.specs.Layout.{up_to}

-- The entries below a room are those of a list, and 0 from its end on.
abbrev pub Column : ℕ → (ℕ → ℕ) → List ℕ → Type 0
Column room field xs = (i : ℕ) → i < room → field i ≡ get_or xs i 0

-- One element more changes no other.
past_seam : (xs : List ℕ) (x i : ℕ) → (i ≡ length xs → ⊥) → get_or (xs ++ x ∷ []) i 0 ≡ get_or xs i 0
past_seam xs x i differ = ⊎_elim
    (λ (l : i < length xs). get_or-append xs (x ∷ []) 0 i l)
    (λ (l : length xs ≤ i).
    let further : length (xs ++ x ∷ []) ≤ i = omega (arith, length-append xs (x ∷ []), differ) in
    get_or-eq_default (xs ++ x ∷ []) 0 further ∙ sym (get_or-eq_default xs 0 l))
    (lt_or_le i (length xs))

column_more : (room : ℕ) (old new : ℕ → ℕ) (xs : List ℕ) (x : ℕ) → Column room old xs
    → new (length xs) ≡ x → ((i : ℕ) → (i ≡ length xs → ⊥) → new i ≡ old i) → Column room new (xs ++ x ∷ [])
column_more room old new xs x column stored kept i inside = ⊎_elim
    (λ (e : i ≡ length xs). rw e (stored ∙ sym (get_or-append_seam xs x [] 0)))
    (λ differ. kept i differ ∙ column i inside ∙ sym (past_seam xs x i differ))
    (eq_or_ne i (length xs))

module _ {A : Type 0} (value : A → ℕ) (xs : List A) where
  -- One entry more, behind the others.
  pub entry_more : (room : ℕ) (old new : ℕ → ℕ) (x : A) (n : ℕ) → n ≡ length xs → Column room old (map value xs)
      → new n ≡ value x → ((i : ℕ) → (i ≡ n → ⊥) → new i ≡ old i) → Column room new (map value (xs ++ x ∷ []))
  entry_more room old new x n is column stored kept =
      let long : n ≡ length (map value xs) = is ∙ sym (length-map xs value) in
      rw map-append (column_more room old new (map value xs) (value x) column (rw (← long) stored) (λ i differ. kept i (λ e. differ (e ∙ long))))

-- The list as it stands in the layout: an entry for each number below the count, and 0 from there on.
module _ {A : Type 0} (value : A → ℕ) (none : A) where
  value_at : (xs : List A) (i : ℕ) → i < length xs → get_or (map value xs) i 0 ≡ value (get_or xs i none)
  value_at [] i inside = absurd (omega arith)
  value_at (x ∷ xs) zero inside = refl
  value_at (x ∷ xs) (suc i) inside = value_at xs i (omega arith)

  pub as_laid : (xs : List A) (i : ℕ) → get_or (map value xs) i 0 ≡ up_to (length xs) (λ j. value (get_or xs j none)) i
  unfolding up_to
  as_laid xs i = ⊎_elim
      (λ (l : i < length xs). rw (lt-ltb i (length xs) l) (value_at xs i l))
      (λ (l : length xs ≤ i). rw (le-ltb i (length xs) l) (get_or-eq_default (map value xs) 0 (omega (arith, length-map xs value))))
      (lt_or_le i (length xs))
