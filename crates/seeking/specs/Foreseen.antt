-- The states that the bytes of a part lead to, looked up ahead. Assumes nothing: these are definitions.
use Rattle.std.specs.Prelude.{◌≡◌, List, ℕ, zero, suc, ◌+◌, ◌-◌, ◌*◌, ◌<◌, length, get_or}
use Rattle.seeking.specs.Quick.{quick_next}

-- The state after so many bytes of a part, from one of its bytes on.
unfoldable pub after_from : List ℕ → List ℕ → ℕ → ℕ → ℕ → ℕ
after_from t part first state zero = state
after_from t part first state (suc n) = quick_next t (after_from t part first state n) (get_or part (first + n) 0)

-- Four quarters of a part, looked up side by side from one of its bytes on: every fourth number is of the same quarter, and each is the state that the
-- byte leads to.
pub record Looked (t part : List ℕ) (first quarter state : ℕ) (ahead : List ℕ) : Type 0 where
  pub each : (k j : ℕ) → k < 4 → j < quarter → get_or ahead (4 * j + k) 0 ≡ after_from t part first state (k * quarter + j + 1)

-- Of a quarter that begins at a byte of the part, every number from where the way stands to the end of the part is right.
pub record Foreseen (t part : List ℕ) (taken state : ℕ) (ahead : List ℕ) (first k : ℕ) : Type 0 where
  pub each : (n : ℕ) → taken + n < length part → get_or ahead (4 * (taken + n - first) + k) 0 ≡ after_from t part taken state (n + 1)
