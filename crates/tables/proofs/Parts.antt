-- What holds of every part of every entry holds of each: the part's place is its entry's, and then the parts before it.
-- Assumes nothing.
use mathlib.Core.Path.{◌≡◌, refl, sym, ◌∙◌}
use mathlib.Core.List.{List, [], ◌∷◌}
use Prim.Native.Nat.{ℕ, zero, suc, ◌+◌, ◌*◌, ◌≤◌, ◌<◌}
use native.Mathlib.Nat.{add-zero}
use native.Mathlib.Omega.{arith}
use lib.ListN.{get_or, take}
use Rattle.lent.specs.Numbers.{number_at}
use Rattle.tables.specs.Regions.{Part, Region, entry_length, HoldsParts, HoldsRegion, Laid, no_part, no_region}

pub number_one : (t : List ℕ) (i : ℕ) → number_at 1 t i ≡ get_or t i 0
unfolding number_at
number_one t i = omega arith

-- Zero bytes make the number 0.
pub number_zero : (n : ℕ) (t : List ℕ) (i : ℕ) → ((k : ℕ) → i ≤ k → k < i + n → get_or t k 0 ≡ 0) → number_at n t i ≡ 0
unfolding number_at
number_zero zero t i zeros = refl
number_zero (suc n) t i zeros = omega (arith, zeros i (omega arith) (omega arith), number_zero n t (i + 1) (λ k a b. zeros k (omega arith) (omega arith)))

part_at : (t : List ℕ) (parts : List Part) (j at : ℕ) → HoldsParts t parts j at → (i : ℕ)
    → number_at (get_or parts i no_part).width t (at + entry_length (take i parts)) ≡ (get_or parts i no_part).value j
unfolding HoldsParts entry_length number_at
part_at t [] j at h i = refl
part_at t (part ∷ rest) j at h zero = rw add-zero h.0
part_at t (part ∷ rest) j at h (suc i) =
    let place : at + (part.width + entry_length (take i rest)) ≡ at + part.width + entry_length (take i rest) = omega arith in
    rw place (part_at t rest j (at + part.width) h.1 i)

row_at : (t : List ℕ) (regions : List Region) → Laid regions t → (k : ℕ) → HoldsRegion t (get_or regions k no_region)
unfolding Laid HoldsRegion
row_at t [] h k = λ j l. absurd (omega arith)
row_at t (region ∷ rest) h zero = h.0
row_at t (region ∷ rest) h (suc k) = row_at t rest h.1 k

-- Part i of entry j of region k stands where the layout puts it. Regions and parts are counted from 0.
pub field_at : (t : List ℕ) (regions : List Region) → Laid regions t → (k i j : ℕ) → j < (get_or regions k no_region).entries
    → (place : ℕ) → place ≡ (get_or regions k no_region).offset + entry_length (get_or regions k no_region).parts * j + entry_length (take i (get_or regions k no_region).parts)
    → number_at (get_or (get_or regions k no_region).parts i no_part).width t place ≡ (get_or (get_or regions k no_region).parts i no_part).value j
unfolding HoldsRegion
field_at t regions h k i j entry place e =
    let region : Region = get_or regions k no_region in
    rw e (part_at t region.parts j (region.offset + entry_length region.parts * j) (row_at t regions h k j entry) i)

-- The same of a part of one byte.
pub byte_at : (t : List ℕ) (regions : List Region) → Laid regions t → (k i j : ℕ) → j < (get_or regions k no_region).entries
    → (place : ℕ) → place ≡ (get_or regions k no_region).offset + entry_length (get_or regions k no_region).parts * j + entry_length (take i (get_or regions k no_region).parts)
    → (get_or (get_or regions k no_region).parts i no_part).width ≡ 1 → get_or t place 0 ≡ (get_or (get_or regions k no_region).parts i no_part).value j
byte_at t regions h k i j entry place e one = sym (number_one t place) ∙ (rw one at (field_at t regions h k i j entry place e))
