-- One byte and one keyword at a time: each turn of a loop is one more of its definition, and what is found is one of the states.
-- Assumes nothing.
use mathlib.Core.Path.{◌≡◌, refl}
use mathlib.Core.Logic.{⊎_elim}
use mathlib.Core.List.{List}
use Prim.Native.Nat.{ℕ, zero, suc, ◌+◌, ◌≤◌, ◌<◌}
use native.Mathlib.Numerals.{add-one}
use lib.ListN.{length, get_or, set, replicate}
use lib.Seq.{get_or-set_same, get_or-set_other, set_out}
use Rattle.format.specs.Limits.{most_pieces}
use Rattle.lent.proofs.Cases.{lt_or_le, eq_or_ne}
use Rattle.stepping.specs.Steps.{child_by_in}
use Rattle.stepping.proofs.Right.{child_below}
use Rattle.survey.specs.declared.stretch.Stretch.{Stretch}
use Rattle.filling.specs.Keywords.{keyword_in}
use Rattle.linking.specs.Keywords.{state_down, keyword_states}

pub zeros : (n a : ℕ) → get_or (replicate {A = ℕ} n 0) a 0 ≡ 0
zeros zero a = refl
zeros (suc n) zero = refl
zeros (suc n) (suc a) = zeros n a

module _ (t : List ℕ) (states : ℕ) (some : 0 < states) where
  down_below : (bytes : List ℕ) (n : ℕ) → state_down t states bytes n < states
  unfolding state_down
  down_below bytes zero = some
  down_below bytes (suc n) = child_below t states (state_down t states bytes n) (get_or bytes n 0) some

  -- Whatever the bytes are, what is found for a keyword is one of the states.
  pub keywords_below : (text : List ℕ) (words : List Stretch) (n q : ℕ) → get_or (keyword_states t states text words n) q 0 < states
  unfolding keyword_states
  keywords_below text words zero q = rw (zeros most_pieces q) some
  keywords_below text words (suc n) q =
      set_below (keyword_states t states text words n) n (state_down t states word (length word)) (keywords_below text words n) (down_below word (length word)) q
    where
      word : List ℕ
      word = keyword_in text words n

      set_below : (l : List ℕ) (i v : ℕ) → ((k : ℕ) → get_or l k 0 < states) → v < states → (k : ℕ) → get_or (set l i v) k 0 < states
      set_below l i v old new k = ⊎_elim
          (λ (e : k ≡ i). ⊎_elim
          (λ (inside : i < length l). rw (e, get_or-set_same l i v 0 inside) new)
          (λ (outside : length l ≤ i). rw (set_out l i v outside) (old k))
          (lt_or_le i (length l)))
          (λ (other : k ≡ i → ⊥). rw (get_or-set_other l i k v 0 other) (old k))
          (eq_or_ne k i)

pub down_further : (t : List ℕ) (states : ℕ) (bytes : List ℕ) (i state next : ℕ) → state ≡ state_down t states bytes i
    → next ≡ child_by_in t states state (get_or bytes i 0) → next ≡ state_down t states bytes (i + 1)
unfolding state_down
down_further t states bytes i state next x e = rw (add-one, ← x) e

pub keyword_further : (t : List ℕ) (states : ℕ) (text : List ℕ) (words : List Stretch) (q : ℕ) (found now bytes : List ℕ) (state number : ℕ)
    → found ≡ keyword_states t states text words q → bytes ≡ keyword_in text words q → state ≡ state_down t states bytes (length bytes)
    → number ≡ state → now ≡ set found q number → now ≡ keyword_states t states text words (q + 1)
unfolding keyword_states
keyword_further t states text words q found now bytes state number e x s n h = rw (add-one, ← e, ← x, ← s, ← n) h
