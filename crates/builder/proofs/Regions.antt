-- A region of one number to an entry is told by the number at each entry's place; so it is told by the bytes there, and stays where
-- they stay. Assumes nothing.
use mathlib.Core.Path.{◌≡◌, ◌∙◌}
use mathlib.Core.List.{List, [], ◌∷◌}
use Prim.Native.Nat.{ℕ, zero, suc, ◌+◌, ◌*◌, ◌≤◌, ◌<◌}
use native.Mathlib.Nat.{mul-suc, mul-le-mul_left}
use native.Mathlib.Omega.{arith}
use lib.ListN.{get_or}
use Rattle.lent.specs.Numbers.{number_at}
use Rattle.lent.proofs.Numbers.{number_agree}
use Rattle.tables.specs.Regions.{entry_length, HoldsParts, HoldsRegion}
use Rattle.tables.specs.Layout.{always, number, region}
use Rattle.tables.proofs.Parts.{number_one, number_zero}
use Rattle.linking.proofs.Filled.{one_number}

-- The number of an entry stands at the entry's place.
pub number_in : (t : List ℕ) (offset entries width : ℕ) (value : ℕ → ℕ) → HoldsRegion t (region offset entries (number width value ∷ []))
    → (j : ℕ) → j < entries → number_at width t (offset + width * j) ≡ value j
unfolding HoldsRegion HoldsParts entry_length
number_in t offset entries width value holds j l = let e : width + 0 ≡ width = omega arith in (rw e at (holds j l)).0

-- An entry ends before its region does.
entry_inside : (entries width j : ℕ) → j < entries → width * j + width ≤ width * entries
entry_inside entries width j l = rw mul-suc at (mul-le-mul_left width l)

-- One entry with one number.
pub single : (t : List ℕ) (offset width value : ℕ) → number_at width t offset ≡ value → HoldsRegion t (region offset 1 (number width (always value) ∷ []))
unfolding always
single t offset width value is = one_number t offset 1 width (λ j. value) go
  where
    go : (j : ℕ) → j < 1 → number_at width t (offset + width * j) ≡ value
    go zero l = let e : offset + width * 0 ≡ offset = omega arith in rw e is
    go (suc j) l = absurd (omega arith)

-- A byte to an entry.
pub byte_region : (t : List ℕ) (offset entries : ℕ) (value : ℕ → ℕ) → ((j : ℕ) → j < entries → get_or t (offset + j) 0 ≡ value j)
    → HoldsRegion t (region offset entries (number 1 value ∷ []))
byte_region t offset entries value is =
    one_number t offset entries 1 value (λ j l. let e : offset + 1 * j ≡ offset + j = omega arith in rw e (number_one t (offset + j) ∙ is j l))

module _ (t : List ℕ) (offset entries width : ℕ) where
  -- Nothing but zero.
  pub zero_region : ((k : ℕ) → offset ≤ k → k < offset + width * entries → get_or t k 0 ≡ 0) → HoldsRegion t (region offset entries (number width (always 0) ∷ []))
  unfolding always
  zero_region zeros = one_number t offset entries width (λ j. 0) (λ j l.
      number_zero width t (offset + width * j) (λ k a b. zeros k (omega arith) (omega (arith, entry_inside entries width j l))))

  -- The same bytes hold the same region.
  pub region_kept : (s : List ℕ) (value : ℕ → ℕ) → ((k : ℕ) → offset ≤ k → k < offset + width * entries → get_or t k 0 ≡ get_or s k 0)
      → HoldsRegion s (region offset entries (number width value ∷ [])) → HoldsRegion t (region offset entries (number width value ∷ []))
  region_kept s value same holds = one_number t offset entries width value (λ j l.
      number_agree width t s (offset + width * j) (λ k a b. same k (omega arith) (omega (arith, entry_inside entries width j l)))
      ∙ number_in s offset entries width value holds j l)
