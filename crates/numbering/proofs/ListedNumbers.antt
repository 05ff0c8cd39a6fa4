-- A string and its number determine each other: the list is in order, so none stands there twice, and byte by byte every state is reached.
-- Assumes nothing.
use mathlib.Core.Path.{◌≡◌, refl, sym, ap, ◌∙◌}
use mathlib.Core.Logic.{◌↔◌, ⊎_elim}
use mathlib.Core.Bool.{Bool, true, false, So, cond, false≢true}
use mathlib.Core.List.Memᴰ
use mathlib.Core.List.{List, [], ◌∷◌, ◌++◌, append_assoc, append-nil, Memᴰ}
use Prim.Native.Nat.{ℕ, suc, ◌<◌}
use native.Mathlib.Omega.{arith}
use lib.ListN.{length, get_or}
use Rattle.meaning.specs.Matching.{same}
use Rattle.meaning.specs.Automaton.{Prefix, failure}
use Rattle.meaning.proofs.Tests.{same_iff}
use Rattle.meaning.proofs.After.{after_state}
use Rattle.meaning.proofs.Failures.{failure_shorter}
use Rattle.numbering.specs.Order.{Before}
use Rattle.numbering.specs.Listed.{listed, Complete, index_of}
use Rattle.numbering.proofs.Lists.{less_equal_more, at_in, sorted_at}
use Rattle.numbering.proofs.Order.{before_other, before_length}
use Rattle.numbering.proofs.Listed.{listed_same, length_grows, listed_state, listed_sorted}
use Rattle.numbering.proofs.ListedChildren.{children_inside, child_there}

-- What is in a list stands at its index.
index_right : (u d : List ℕ) (list : List (List ℕ)) → Memᴰ u list → (index_of u list < length list) × (get_or list (index_of u list) d ≡ u)
unfolding index_of
index_right u d [] m = absurd (Memᴰ.not-nil m)
index_right u d (v ∷ list) m = go (same u v) refl (index_right u d list)
  where
    go : (t : Bool) → same u v ≡ t → (Memᴰ u list → (index_of u list < length list) × (get_or list (index_of u list) d ≡ u))
        → (cond t 0 (suc (index_of u list)) < suc (length list)) × (get_or (v ∷ list) (cond t 0 (suc (index_of u list))) d ≡ u)
    go true e ih = (omega arith, sym ((same_iff u v).0 e))
    go false e ih = ⊎_elim
        (λ (p : u ≡ v). absurd (false≢true (sym e ∙ (same_iff u v).1 p)))
        (λ k. let r = ih k in (omega (arith, r.0), r.1))
        (Memᴰ.cases_cons m)

module _ (state : List ℕ → Bool) (alphabet turns : ℕ) where
  abbrev list : List (List ℕ)
  list = listed state alphabet turns

  abbrev string : ℕ → List ℕ
  string i = get_or list i []

  abbrev size : ℕ
  size = length list

  abbrev number : List ℕ → ℕ
  number u = index_of u list

  -- ── In order ──

  -- The empty string stands first.
  pub size_some : 0 < size
  unfolding listed
  size_some = omega (arith, length_grows state alphabet 0 turns (omega arith))

  pub string_empty : string 0 ≡ []
  unfolding listed
  string_empty = listed_same state alphabet [] 0 0 turns (omega arith) (omega arith)

  pub string_before : (i j : ℕ) → i < j → j < size → Before (string i) (string j)
  string_before i j l h = sorted_at Before [] list (listed_sorted state alphabet turns) i j l h

  -- No string has two numbers.
  pub string_once : (i j : ℕ) → i < size → j < size → string i ≡ string j → i ≡ j
  string_once i j p q e = ⊎_elim
      (λ (k : i < j). absurd (before_other (string i) (string j) (string_before i j k q) e))
      (⊎_elim (λ k. k) (λ (k : j < i). absurd (before_other (string j) (string i) (string_before j i k p) (sym e))))
      (less_equal_more i j)

  pub only_empty : (i : ℕ) → i < size → string i ≡ [] → i ≡ 0
  only_empty i l e = string_once i 0 l size_some (e ∙ sym string_empty)

  -- A shorter string has a smaller number.
  pub shorter_first : (i j : ℕ) → i < size → j < size → length (string i) < length (string j) → i < j
  shorter_first i j p q l = ⊎_elim
      (λ k. k)
      (⊎_elim
      (λ (e : i ≡ j). absurd (omega (arith, ap (λ n. length (string n)) e)))
      (λ (k : j < i). absurd (omega (arith, before_length (string j) (string i) (string_before j i k p)))))
      (less_equal_more i j)

  module _ (complete : Complete state alphabet turns) where
    pub string_state : (i : ℕ) → i < size → So (state (string i))
    string_state i l = listed_state state alphabet complete.closed.empty turns (string i) (at_in [] list i l)

    -- ── Every state has a number ──

    -- From a state that has one, byte by byte.
    onward_numbered : (rest : List ℕ) (i : ℕ) → i < size → So (state (string i ++ rest)) → (j : ℕ) × (j < size) × (string j ≡ string i ++ rest)
    onward_numbered [] i l h = (i, l, sym (append-nil (string i)))
    onward_numbered (a ∷ rest) i l h =
        let split : (string i ++ a ∷ []) ++ rest ≡ string i ++ a ∷ rest = append_assoc (string i) (a ∷ []) rest in
        let start : Prefix (string i ++ a ∷ []) (string i ++ a ∷ rest) = record { rest = rest; split = split } in
        let here : So (state (string i ++ a ∷ [])) = complete.closed.shorter (string i ++ a ∷ []) (string i ++ a ∷ rest) start h in
        let c = child_there state alphabet turns complete i a l here in
        let whole : string c.0 ++ rest ≡ string i ++ a ∷ rest = ap {B = List ℕ} (λ u. u ++ rest) c.3 ∙ split in
        let r = onward_numbered rest c.0 (omega (arith, c.2, children_inside state alphabet turns complete i l)) (rw whole h) in
        (r.0, r.1, r.2 ∙ whole)

    -- The list has exactly the states.
    pub listed_iff : (u : List ℕ) → Memᴰ u list ↔ So (state u)
    listed_iff u = (listed_state state alphabet complete.closed.empty turns u, to)
      where
        to : So (state u) → Memᴰ u list
        to h =
            let whole : string 0 ++ u ≡ u = ap {B = List ℕ} (λ v. v ++ u) string_empty in
            let r = onward_numbered u 0 size_some (rw whole h) in
            rw (r.2 ∙ whole) at (at_in [] list r.0 r.1)

    -- A state's number is that of its string, and the other way round.
    pub number_inside : (u : List ℕ) → So (state u) → number u < size
    number_inside u h = (index_right u [] list ((listed_iff u).1 h)).0

    pub string_number : (u : List ℕ) → So (state u) → string (number u) ≡ u
    string_number u h = (index_right u [] list ((listed_iff u).1 h)).1

    pub number_string : (i : ℕ) → i < size → number (string i) ≡ i
    number_string i l =
        let h : So (state (string i)) = string_state i l in
        string_once (number (string i)) i (number_inside (string i) h) l (string_number (string i) h)

    -- ── Failures ──

    pub failure_state : (u : List ℕ) → So (state (failure state u))
    unfolding failure
    failure_state [] = complete.closed.empty
    failure_state (x ∷ u) = after_state state complete.closed.empty u

    -- The failure of a state is shorter, so its number is smaller.
    pub failure_smaller : (i : ℕ) → 0 < i → i < size → number (failure state (string i)) < i
    failure_smaller i p l = go (string i) refl
      where
        go : (u : List ℕ) → string i ≡ u → number (failure state (string i)) < i
        go [] e = absurd (omega (arith, only_empty i l e))
        go (x ∷ u) e =
            let f : So (state (failure state (string i))) = failure_state (string i) in
            shorter_first (number (failure state (string i))) i (number_inside (failure state (string i)) f) l
            (rw (string_number (failure state (string i)) f, e) (failure_shorter state x u))
