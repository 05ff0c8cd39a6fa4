-- A column is a part of the memory: what stands at a place in it stands in the memory where both places together say.
-- Assumes nothing.
use mathlib.Core.Path.{◌≡◌, refl, ap, ap₂, ◌∙◌}
use mathlib.Core.List.{List}
use Prim.Native.Nat.{ℕ, zero, suc, ◌+◌, ◌-◌, ◌*◌, ◌≤◌, ◌<◌}
use native.Mathlib.Omega.{arith}
use lib.ListN.{length, take, drop, get_or}
use lib.Seq.{get_or-drop, get_or-take}
use Rattle.lent.specs.Numbers.{number_at}
use Rattle.lent.proofs.Numbers.{number_agree}
use Rattle.tables.specs.Reads.{column_in, cell_in, info_in}

number_drop : (n : ℕ) (t : List ℕ) (c i : ℕ) → number_at n (drop c t) i ≡ number_at n t (c + i)
unfolding number_at
number_drop zero t c i = refl
number_drop (suc n) t c i =
    let place : c + (i + 1) ≡ c + i + 1 = omega arith in
    ap₂ (λ (low high : ℕ). low + 256 * high) (get_or-drop c t i 0) (number_drop n t c (i + 1) ∙ ap (number_at n t) place)

-- A number, and a single byte, in a part of the memory.
pub number_part : (n : ℕ) (t : List ℕ) (at i : ℕ) → at + i + n ≤ length t → number_at n (take (length t - at) (drop at t)) i ≡ number_at n t (at + i)
number_part n t at i room =
    number_agree n (take (length t - at) (drop at t)) (drop at t) i (λ k a b. get_or-take (length t - at) (drop at t) k 0 (omega arith)) ∙ number_drop n t at i

pub byte_part : (t : List ℕ) (at i : ℕ) → at + i < length t → get_or (take (length t - at) (drop at t)) i 0 ≡ get_or t (at + i) 0
byte_part t at i room = get_or-take (length t - at) (drop at t) i 0 (omega arith) ∙ get_or-drop at t i 0

pub cell_in_lem : (t : List ℕ) (column i most : ℕ) → 2 * i + 2 ≤ most → number_at 2 (take most (drop column t)) (2 * i) ≡ cell_in t column i
cell_in_lem t column i most room =
    number_agree 2 (take most (drop column t)) (drop column t) (2 * i) (λ k a b. get_or-take most (drop column t) k 0 (omega arith))
    ∙ number_drop 2 t column (2 * i)

-- The same of the numbers that the code reads: the state's index, and the cell before and after it is widened.
pub cell_read : (t : List ℕ) (column : ℕ) {i j cell r : ℕ} → column + 2 * i + 2 ≤ length t → j ≡ i
    → cell ≡ number_at 2 (take (length t - column) (drop column t)) (2 * j) → r ≡ cell → r ≡ cell_in t column i
cell_read t column {i} {j} room same read wide =
    wide ∙ read ∙ ap (λ (k : ℕ). number_at 2 (take (length t - column) (drop column t)) (2 * k)) same ∙ cell_in_lem t column i (length t - column) (omega arith)

-- The same of a column's place, and of an info.
pub column_read : (t : List ℕ) {byte i two r : ℕ} → 32 + 2 * byte + 2 ≤ length t → i ≡ byte
    → two ≡ number_at 2 (take (length t - 32) (drop 32 t)) (2 * i) → r ≡ two → r ≡ column_in t byte
column_read t {byte} room same read wide =
    wide ∙ read ∙ ap (λ (k : ℕ). number_at 2 (take (length t - 32) (drop 32 t)) (2 * k)) same ∙ number_part 2 t 32 (2 * byte) room

pub info_read : (t : List ℕ) {state i : ℕ} → 544 + state < length t → i ≡ state → get_or (take (length t - 544) (drop 544 t)) i 0 ≡ info_in t state
info_read t {state} room same = ap (λ (k : ℕ). get_or (take (length t - 544) (drop 544 t)) k 0) same ∙ byte_part t 544 state room
