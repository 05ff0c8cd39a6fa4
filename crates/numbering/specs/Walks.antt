-- Walks over numbers, along failures: the step of one byte, and the way to the nearest failure that a test holds of.
-- A child or a failure is a number; 0 is the empty state, which is nobody's child and the end of every way.
-- Fuel above the number where a walk begins is enough, since a failure has a smaller number. Assumes nothing: these are definitions.
use Rattle.std.specs.Prelude.{◌≡◌, Bool, false, cond, List, [], ◌∷◌, ◌++◌, ℕ, zero, suc, ◌≤◌, ◌<◌, eqb}
use Rattle.std.proofs.Math.Bool.{So}
use Rattle.meaning.specs.Automaton.{after, failure, steps_for}

-- Where a walk comes to, and how many failures it took.
pub record Landed : Type 0 where
  pub at : ℕ
  pub taken : ℕ

-- The same, with one failure more on the way.
abbrev pub further_back : Landed → Landed
further_back landed = record { at = landed.at; taken = suc landed.taken }

module _ (child : ℕ → ℕ → ℕ) (fail : ℕ → ℕ) where
  -- The step of the byte a from i: to the child by a where there is one; else from the failure of i; from the empty state to itself.
  unfoldable pub walk : ℕ → ℕ → ℕ → Landed
  walk zero i a = record { at = 0; taken = 0 }
  walk (suc fuel) i a =
      let rest : Landed = walk fuel (fail i) a in
      let back : Landed = further_back rest in
      let stay : Landed = record { at = 0; taken = 0 } in
      let none : Landed = cond (eqb i 0) stay back in
      let forward : Landed = record { at = child i a; taken = 0 } in
      cond (eqb (child i a) 0) none forward

-- The nearest failure of i that a test holds of, or 0: the failure itself, its failure, and so on.
unfoldable pub nearest : (ℕ → Bool) → (ℕ → ℕ) → ℕ → ℕ → ℕ
nearest test fail zero i = 0
nearest test fail (suc fuel) zero = 0
nearest test fail (suc fuel) (suc i) =
    let further : ℕ = nearest test fail fuel (fail (suc i)) in
    cond (test (fail (suc i))) (fail (suc i)) further

-- ── What makes a walk right ──

-- Numbers below n stand for states, each for its string; children are right for all of them, failures for those below f.
pub record UpTo (state : List ℕ → Bool) (string : ℕ → List ℕ) (child : ℕ → ℕ → ℕ) (fail : ℕ → ℕ) (n f : ℕ) : Type 0 where
  pub some : 0 < n
  pub empty : string 0 ≡ []
  pub only_empty : (i : ℕ) → i < n → string i ≡ [] → i ≡ 0
  pub states : (i : ℕ) → i < n → So (state (string i))
  pub has_child : (i a : ℕ) → i < n → (child i a ≡ 0 → ⊥) → (child i a < n) × (string (child i a) ≡ string i ++ a ∷ [])
  pub no_child : (i a : ℕ) → i < n → child i a ≡ 0 → state (string i ++ a ∷ []) ≡ false
  pub inside : f ≤ n
  pub fails : (i : ℕ) → 0 < i → i < f → (fail i < i) × (string (fail i) ≡ failure state (string i))

-- The step of the byte a from the state u has come to the next state, and counted the failure steps.
pub record Lands (state : List ℕ → Bool) (string : ℕ → List ℕ) (n : ℕ) (u : List ℕ) (a : ℕ) (landed : Landed) : Type 0 where
  pub inside : landed.at < n
  pub next : string landed.at ≡ after state (u ++ a ∷ [])
  pub counted : landed.taken ≡ steps_for state u a
