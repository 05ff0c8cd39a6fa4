-- A walk over the last bytes of a quarter is one over the bytes before the next: so the first three walks end in the guesses.
-- Assumes nothing.
use mathlib.Core.Path.{◌≡◌, ap₂, ◌∙◌}
use mathlib.Core.List.{List}
use Prim.Native.Nat.{ℕ, ◌+◌, ◌-◌, ◌*◌, ◌≤◌, ◌<◌}
use native.Mathlib.Omega.{arith}
use Rattle.tables.specs.Reads.{state_count_in}
use Rattle.seeking.specs.Foreseen.{after_from}
use Rattle.ahead.specs.Cursors.{cursor}
use Rattle.ahead.specs.Ahead.{Ran, guess, Guessed}
use Rattle.ahead.proofs.Turns.{each_quarter}

module _ (t part : List ℕ) (first quarter state : ℕ) (roots warm before after : List ℕ) (at_root : (k : ℕ) → k < 4 → cursor roots k ≡ 0) (least : 32 ≤ quarter)
    (ran : Ran t part (first + quarter - 32) quarter 32 roots warm before after) where
  guessed_by : (k : ℕ) → k < 4 → (next : ℕ) → next ≡ first + quarter + k * quarter → cursor warm k ≡ guess t part next
  unfolding guess
  guessed_by k few next e =
      ran.ended k few ∙ ap₂ (λ (p s : ℕ). after_from t part p s 32) (omega arith) (at_root k few)

  pub guessed_is : (start : List ℕ) → state < state_count_in t → cursor start 0 ≡ state → cursor start 1 ≡ cursor warm 0 → cursor start 2 ≡ cursor warm 1 → cursor start 3 ≡ cursor warm 2
      → Guessed t part first quarter state start before after
  guessed_is start inside here e₁ e₂ e₃ = record {
    at_hand = here;
    second = e₁ ∙ guessed_by 0 (omega arith) (first + quarter) (omega arith);
    third = e₂ ∙ guessed_by 1 (omega arith) (first + 2 * quarter) (omega arith);
    fourth = e₃ ∙ guessed_by 2 (omega arith) (first + 3 * quarter) (omega arith);
    inside = record {
      each = each_quarter (λ k. cursor start k < state_count_in t) (omega (arith, here)) (omega (arith, e₁, ran.inside.each 0 (omega arith))) (omega (arith, e₂, ran.inside.each 1 (omega arith)))
          (omega (arith, e₃, ran.inside.each 2 (omega arith)));
    };
    walks = λ k few. record {
      each = λ j l. (ran.listed k few).each j l ∙ ap₂ (λ (p s : ℕ). after_from t part p s (j + 1)) (omega arith) (at_root k few);
    };
    behind = ran.behind;
    long = ran.long;
  }
