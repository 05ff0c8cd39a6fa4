-- Laws of the states ahead: bytes one after the other, the first bytes of a part, and what was looked up for a quarter.
-- Assumes nothing.
use mathlib.Core.Path.{◌≡◌, refl, ap, ap₂, ◌∙◌}
use mathlib.Core.List.{List}
use Prim.Native.Nat.{ℕ, zero, suc, ◌+◌, ◌-◌, ◌*◌, ◌<◌}
use native.Mathlib.Numerals.{add-one}
use native.Mathlib.Omega.{arith}
use lib.ListN.{length, get_or}
use Rattle.tables.specs.Reads.{state_count_in, dense_in}
use Rattle.seeking.specs.Quick.{quick_in}
use Rattle.seeking.specs.Foreseen.{after_from, Looked, Foreseen}
use Rattle.seeking.proofs.Found.{quick_inside}

module _ (t part : List ℕ) where
  -- One byte more.
  pub after_more : (first state n : ℕ)
      → after_from t part first state (n + 1) ≡ quick_in t (state_count_in t) (dense_in t) (after_from t part first state n) (get_or part (first + n) 0)
  unfolding after_from
  after_more first state n = ap (after_from t part first state) (add-one n)

  -- Some bytes, and then some more.
  pub after_add : (first state a n : ℕ) → after_from t part first state (a + n) ≡ after_from t part (first + a) (after_from t part first state a) n
  unfolding after_from
  after_add first state a zero =
      let none : a + 0 ≡ a = omega arith in
      ap (after_from t part first state) none
  after_add first state a (suc n) =
      let more : a + suc n ≡ suc (a + n) = omega arith in
      let place : first + (a + n) ≡ first + a + n = omega arith in
      ap (after_from t part first state) more
      ∙ ap₂ (λ (s k : ℕ). quick_in t (state_count_in t) (dense_in t) s (get_or part k 0)) (after_add first state a n) place

  -- It is one of the states.
  pub after_inside : (first state n : ℕ) → state < state_count_in t → after_from t part first state n < state_count_in t
  unfolding after_from
  after_inside first state zero inside = inside
  after_inside first state (suc n) inside =
      quick_inside t (state_count_in t) (dense_in t) (after_from t part first state n) (get_or part (first + n) 0) (omega (arith, inside))

-- Only the bytes up to the last of them matter.
pub after_same : (t part other : List ℕ) (first state n : ℕ) → ((i : ℕ) → i < first + n → get_or part i 0 ≡ get_or other i 0)
    → after_from t part first state n ≡ after_from t other first state n
unfolding after_from
after_same t part other first state zero same = refl
after_same t part other first state (suc n) same =
    ap₂ (quick_in t (state_count_in t) (dense_in t)) (after_same t part other first state n (λ i l. same i (omega arith))) (same (first + n) (omega arith))

-- What was looked up for a quarter is right from its first byte on, in the part that ends with the quarter.
pub looked_quarter : (t part upto : List ℕ) (first quarter state k : ℕ) (ahead : List ℕ) → Looked t part first quarter state ahead → k < 4
    → length upto ≡ first + k * quarter + quarter → ((i : ℕ) → i < length upto → get_or part i 0 ≡ get_or upto i 0)
    → Foreseen t upto (first + k * quarter) (after_from t part first state (k * quarter)) ahead (first + k * quarter) k
looked_quarter t part upto first quarter state k ahead looked few long same = record {
  each = λ n l.
      let place : 4 * (first + k * quarter + n - (first + k * quarter)) + k ≡ 4 * n + k = omega arith in
      let reach : k * quarter + n + 1 ≡ k * quarter + (n + 1) = omega arith in
      ap (λ (i : ℕ). get_or ahead i 0) place
      ∙ looked.each k n few (omega (arith, long))
      ∙ ap (after_from t part first state) reach
      ∙ after_add t part first state (k * quarter) (n + 1)
      ∙ after_same t part upto (first + k * quarter) (after_from t part first state (k * quarter)) (n + 1) (λ i j. same i (omega (arith, long)));
}

-- It stays right while the way goes on.
pub foreseen_on : (t part : List ℕ) (taken state : ℕ) (ahead : List ℕ) (first k n : ℕ) → Foreseen t part taken state ahead first k
    → Foreseen t part (taken + n) (after_from t part taken state n) ahead first k
foreseen_on t part taken state ahead first k n foreseen = record {
  each = λ i l.
      let place : 4 * (taken + n + i - first) + k ≡ 4 * (taken + (n + i) - first) + k = omega arith in
      let reach : n + i + 1 ≡ n + (i + 1) = omega arith in
      ap (λ (x : ℕ). get_or ahead x 0) place
      ∙ foreseen.each (n + i) (omega arith)
      ∙ ap (after_from t part taken state) reach
      ∙ after_add t part taken state n (i + 1);
}
