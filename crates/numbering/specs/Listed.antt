-- The states of a set, listed turn by turn: first the empty one, and then, for each listed state in its turn, its children.
-- Said over any set of states, given by its test, and any alphabet, given by how many bytes it has: those below that number.
-- Assumes nothing: these are definitions.
use Rattle.std.specs.Prelude.{Bool, cond, List, [], ◌∷◌, ◌++◌, map, ℕ, zero, suc, ◌≤◌, ◌<◌, ltb, length, get_or}
use Rattle.std.proofs.Math.Bool.{So}
use Rattle.meaning.specs.Matching.{same}
use Rattle.meaning.specs.Reports.{choose}
use Rattle.meaning.specs.Automaton.{PrefixClosed}

-- The numbers below n, in order.
unfoldable pub below : ℕ → List ℕ
below zero = []
below (suc n) = below n ++ n ∷ []

module _ (state : List ℕ → Bool) (alphabet : ℕ) where
  -- The bytes a for which ua is a state, in order.
  unfoldable pub onward : List ℕ → List ℕ
  onward u = choose (λ a. state (u ++ a ∷ [])) (below alphabet)

  -- The children of u: the states that are u and one byte more, in the order of that byte.
  unfoldable pub children : List ℕ → List (List ℕ)
  children u = map (λ a. u ++ a ∷ []) (onward u)

  -- The children of element i of a list; none where the list has no such element.
  unfoldable pub children_at : List (List ℕ) → ℕ → List (List ℕ)
  children_at list i = let these : List (List ℕ) = children (get_or list i []) in cond (ltb i (length list)) these []

  -- The list after so many turns: at first it has the empty state alone, and turn i appends the children of its element i.
  unfoldable pub listed : ℕ → List (List ℕ)
  listed zero = [] ∷ []
  listed (suc i) = listed i ++ children_at (listed i) i

  -- Where the children of element i begin: at the length that the list has when its turn comes.
  unfoldable pub children_from : ℕ → ℕ
  children_from i = length (listed i)

-- The list is complete: the states have no bytes but those of the alphabet, and each listed state has had its turn.
pub record Complete (state : List ℕ → Bool) (alphabet turns : ℕ) : Type 0 where
  pub closed : PrefixClosed state
  pub bytes : (u : List ℕ) (a : ℕ) → So (state (u ++ a ∷ [])) → a < alphabet
  pub turned : length (listed state alphabet turns) ≤ turns

-- How many elements of a list stand before some bytes.
unfoldable pub index_of : List ℕ → List (List ℕ) → ℕ
index_of u [] = 0
index_of u (v ∷ rest) = let later : ℕ = suc (index_of u rest) in cond (same u v) 0 later
