-- Bytes that are made zero are zero, and no other byte changes: each store changes one element.
-- Assumes nothing.
use mathlib.Core.Path.{◌≡◌, refl, sym, ap, ◌∙◌}
use mathlib.Core.Logic.{◌⊎◌, inl, inr, ⊎_elim}
use mathlib.Core.List.{List, [], ◌∷◌}
use Prim.Native.Nat.{ℕ, zero, suc, ◌+◌, ◌≤◌, ◌<◌}
use native.Mathlib.Numerals.{add-one}
use native.Mathlib.Omega.{arith}
use lib.ListN.{length, get_or, set, length-set}
use lib.Seq.{get_or-set_same, get_or-set_other}
use Rattle.lent.specs.Numbers.{Bytes, with_bytes}
use Rattle.lent.specs.Zeros.{with_zeros}
use Rattle.lent.proofs.Bytes.{bytes_kept}
use Rattle.lent.proofs.Cases.{eq_or_ne}

module _ (s : List ℕ) (i : ℕ) where
  pub zeros_more : (n : ℕ) → with_zeros s i (n + 1) ≡ set (with_zeros s i n) (i + n) 0
  unfolding with_zeros
  zeros_more n = rw add-one

  pub zeros_stored : (n : ℕ) {t : List ℕ} → t ≡ with_zeros s i n → set t (i + n) 0 ≡ with_zeros s i (n + 1)
  zeros_stored n e = ap (λ (t : List ℕ). set t (i + n) 0) e ∙ sym (zeros_more n)

  pub length_zeros : (n : ℕ) → length (with_zeros s i n) ≡ length s
  unfolding with_zeros
  length_zeros zero = refl
  length_zeros (suc n) = length-set (with_zeros s i n) (i + n) 0 ∙ length_zeros n

  -- Every element is still a byte.
  pub bytes_zeros : (n : ℕ) → Bytes s → Bytes (with_zeros s i n)
  unfolding with_zeros with_bytes
  bytes_zeros zero bytes = bytes
  bytes_zeros (suc n) bytes = bytes_kept (with_zeros s i n) (i + n) (0 ∷ []) (bytes_zeros n bytes) zero_byte
    where
      zero_byte : Bytes (0 ∷ [])
      zero_byte zero = omega arith
      zero_byte (suc k) = omega arith

  pub zeros_there : (n : ℕ) → i + n ≤ length s → (j : ℕ) → i ≤ j → j < i + n → get_or (with_zeros s i n) j 0 ≡ 0
  unfolding with_zeros
  zeros_there zero room j from to = absurd (omega arith)
  zeros_there (suc n) room j from to = ⊎_elim
      (λ (e : j ≡ i + n). rw e (get_or-set_same (with_zeros s i n) (i + n) 0 0 (rw (length_zeros n) (omega arith))))
      (λ (d : j ≡ i + n → ⊥). get_or-set_other (with_zeros s i n) (i + n) j 0 0 d ∙ zeros_there n (omega arith) j from (omega arith))
      (eq_or_ne j (i + n))

  pub zeros_apart : (n j : ℕ) → (j < i) ⊎ (i + n ≤ j) → get_or (with_zeros s i n) j 0 ≡ get_or s j 0
  unfolding with_zeros
  zeros_apart zero j apart = refl
  zeros_apart (suc n) j apart = get_or-set_other (with_zeros s i n) (i + n) j 0 0 (differ apart) ∙ zeros_apart n j (less apart)
    where
      differ : (j < i) ⊎ (i + suc n ≤ j) → j ≡ i + n → ⊥
      differ (inl before) e = omega arith
      differ (inr behind) e = omega arith

      less : (j < i) ⊎ (i + suc n ≤ j) → (j < i) ⊎ (i + n ≤ j)
      less (inl before) = inl before
      less (inr behind) = inr (omega arith)
