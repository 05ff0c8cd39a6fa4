-- The children of a state are what its turn adds, so they stand together, from the length the list has then to the length it has after.
-- Assumes nothing.
use mathlib.Core.Path.{◌≡◌, refl, sym, ap, ◌∙◌}
use mathlib.Core.Bool.{Bool, So}
use mathlib.Core.List.{List, [], ◌∷◌, ◌++◌}
use Prim.Native.Nat.{ℕ, suc, ◌+◌, ◌-◌, ◌≤◌, ◌<◌}
use native.Mathlib.Omega.{arith}
use lib.ListN.{length, get_or, length-append, length-map, get_or-map}
use lib.Seq.{get_or-append-add}
use Rattle.numbering.specs.Listed.{onward, children, listed, children_from, Complete}
use Rattle.numbering.specs.States.{last_byte}
use Rattle.numbering.proofs.Lists.{at_inside, in_at, sorted_at}
use Rattle.numbering.proofs.Order.{last_byte_snoc}
use Rattle.numbering.proofs.Listed.{onward_iff, onward_sorted, listed_turn, listed_same, length_grows, listed_ends, listed_in_time}

module _ (state : List ℕ → Bool) (alphabet turns : ℕ) (complete : Complete state alphabet turns) where
  abbrev list : ℕ → List (List ℕ)
  list i = listed state alphabet i

  abbrev string : ℕ → List ℕ
  string i = get_or (list turns) i []

  abbrev size : ℕ
  size = length (list turns)

  abbrev from : ℕ → ℕ
  from i = children_from state alphabet i

  abbrev bytes : ℕ → List ℕ
  bytes i = onward state alphabet (string i)

  -- ── The numbers of the children of i ──

  -- A state is listed before its children.
  pub children_above : (i : ℕ) → i < size → i < from i
  unfolding children_from
  children_above i l = listed_in_time state alphabet i turns (omega (arith, complete.turned)) l

  -- When its turn comes, the string of i stands in the list already.
  string_then : (i : ℕ) → i < size → get_or (list i) i [] ≡ string i
  unfolding children_from
  string_then i l = sym (listed_same state alphabet [] i i turns (omega (arith, complete.turned)) (children_above i l))

  turn : (i : ℕ) → i < size → list (suc i) ≡ list i ++ children state alphabet (string i)
  unfolding children_from
  turn i l = rw (← (string_then i l)) (listed_turn state alphabet i (children_above i l))

  -- One state's children end where the next one's begin.
  pub children_next : (i : ℕ) → i < size → from (suc i) ≡ from i + length (bytes i)
  unfolding children_from children
  children_next i l =
      ap length (turn i l)
      ∙ length-append (list i) (children state alphabet (string i))
      ∙ ap (λ n. length (list i) + n) (length-map (bytes i) (λ a. string i ++ a ∷ []))

  -- What a turn adds is inside the whole list.
  pub children_inside : (i : ℕ) → i < size → from (suc i) ≤ size
  unfolding children_from
  children_inside i l = length_grows state alphabet (suc i) turns (omega (arith, complete.turned))

  -- The first children come right after the empty state, and after the last state there are none.
  pub children_first : from 0 ≡ 1
  unfolding children_from listed
  children_first = refl

  pub children_last : from size ≡ size
  unfolding children_from
  children_last = sym (ap length (listed_ends state alphabet size turns complete.turned (length_grows state alphabet size turns complete.turned)))

  -- ── Their strings ──

  -- The child of number k among those of i: it has the k-th byte that leads on from i.
  pub child_string : (i k : ℕ) → i < size → k < length (bytes i) → string (from i + k) ≡ string i ++ get_or (bytes i) k 0 ∷ []
  unfolding children_from children
  child_string i k l h =
      listed_same state alphabet [] (from i + k) (suc i) turns (omega (arith, complete.turned)) (omega (arith, children_next i l))
      ∙ ap {B = List ℕ} (λ l. get_or l (from i + k) []) (turn i l)
      ∙ get_or-append-add (list i) (children state alphabet (string i)) k []
      ∙ at_inside [] (children state alphabet (string i)) k (string i ++ 0 ∷ []) (omega (arith, length-map (bytes i) (λ a. string i ++ a ∷ [])))
      ∙ get_or-map (λ a. string i ++ a ∷ []) (bytes i) k 0

  -- The same by its number: every number from one first child to the next is that of a child, and its last byte is the one that leads there.
  module _ (i c : ℕ) (l : i < size) (low : from i ≤ c) (high : c < from (suc i)) where
    at_number : string c ≡ string i ++ get_or (bytes i) (c - from i) 0 ∷ []
    at_number =
        let e : c ≡ from i + (c - from i) = omega arith in
        ap string e ∙ child_string i (c - from i) l (omega (arith, children_next i l))

    pub child_byte : last_byte (string c) ≡ get_or (bytes i) (c - from i) 0
    child_byte =
        ap last_byte at_number ∙ last_byte_snoc (string i) (get_or (bytes i) (c - from i) 0)

    pub child_is : string c ≡ string i ++ last_byte (string c) ∷ []
    child_is = at_number ∙ rw child_byte refl

  -- They come in the order of their last bytes.
  pub children_ascend : (i c d : ℕ) → i < size → from i ≤ c → c < d → d < from (suc i) → last_byte (string c) < last_byte (string d)
  children_ascend i c d l low h high =
      rw (child_byte i c l low (omega arith), child_byte i d l (omega arith) high)
      (sorted_at ◌<◌ 0 (bytes i) (onward_sorted state alphabet (string i)) (c - from i) (d - from i) (omega arith) (omega (arith, children_next i l)))

  -- Where a byte leads from i to a state, that state is among the children of i.
  pub child_there : (i a : ℕ) → i < size → So (state (string i ++ a ∷ []))
      → (c : ℕ) × (from i ≤ c) × (c < from (suc i)) × (string c ≡ string i ++ a ∷ [])
  child_there i a l h =
      let r = in_at 0 (bytes i) a ((onward_iff state alphabet (string i) a).1 (complete.bytes (string i) a h, h)) in
      let s : string (from i + r.0) ≡ string i ++ a ∷ [] = child_string i r.0 l r.1 ∙ ap {B = List ℕ} (λ b. string i ++ b ∷ []) r.2 in
      (from i + r.0, omega arith, omega (arith, children_next i l, r.1), s)
