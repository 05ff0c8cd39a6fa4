-- The list grows at its end only, and what a turn adds are children of a later state than all parents before, so the list stays in order.
-- Assumes nothing.
use mathlib.Core.Path.{◌≡◌, refl, sym, ap, ◌∙◌}
use mathlib.Core.Logic.{◌↔◌, ◌⊎◌, inl, inr, ⊎_elim}
use mathlib.Core.Bool.{Bool, So, cond}
use mathlib.Core.List.Memᴰ
use mathlib.Core.List.{List, [], ◌∷◌, ◌++◌, append_assoc, append-nil, Memᴰ}
use Prim.Native.Nat.{ℕ, zero, suc, ◌+◌, ◌≤◌, ◌<◌}
use native.Mathlib.Nat.{le-suc_iff}
use native.Mathlib.Numerals.{add-one}
use native.Mathlib.Omega.{arith}
use borrow.Author.Tests.{lt-ltb, le-ltb}
use lib.ListN.{length, get_or, length-append, get_or-append}
use Rattle.meaning.specs.Reports.{choose, Sorted}
use Rattle.meaning.proofs.Reports.{choose_iff}
use Rattle.meaning.proofs.Sorted.{sorted_append}
use Rattle.format.proofs.Tests.{less_or_not}
use Rattle.format.proofs.Chosen.{sorted_chosen, sorted_map}
use Rattle.numbering.specs.Order.{Before}
use Rattle.numbering.specs.Listed.{below, onward, children, children_at, listed}
use Rattle.numbering.proofs.Lists.{choose_append, sorted_one, sorted_at, below_iff, below_sorted}
use Rattle.numbering.proofs.Order.{before_empty, before_children, before_last}

module _ (state : List ℕ → Bool) (alphabet : ℕ) where
  -- ── The children of a state ──

  -- A byte leads on exactly when it is of the alphabet and leads to a state; the bytes that do come in order.
  pub onward_iff : (u : List ℕ) (a : ℕ) → Memᴰ a (onward state alphabet u) ↔ ((a < alphabet) × So (state (u ++ a ∷ [])))
  unfolding onward
  onward_iff u a =
      let r = choose_iff (λ a. state (u ++ a ∷ [])) (below alphabet) a in
      (λ m. ((below_iff alphabet a).0 (r.0 m).0, (r.0 m).1), λ h. r.1 ((below_iff alphabet a).1 h.0, h.1))

  pub onward_sorted : (u : List ℕ) → Sorted ◌<◌ (onward state alphabet u)
  unfolding onward
  onward_sorted u = sorted_chosen ◌<◌ (λ a. state (u ++ a ∷ [])) (below alphabet) (below_sorted alphabet)

  -- One byte more in the alphabet: it leads on, or nothing is added.
  pub onward_more : (u : List ℕ) → onward state (alphabet + 1) u ≡ onward state alphabet u ++ cond (state (u ++ alphabet ∷ [])) (alphabet ∷ []) []
  unfolding onward below choose
  onward_more u = rw add-one (choose_append (λ a. state (u ++ a ∷ [])) (below alphabet) (alphabet ∷ []))

  children_in : (u v : List ℕ) → Memᴰ v (children state alphabet u) → (a : ℕ) × (a < alphabet) × (v ≡ u ++ a ∷ []) × So (state v)
  unfolding children
  children_in u v m =
      let r = Memᴰ.of_map (λ a. u ++ a ∷ []) (onward state alphabet u) m in
      let k = (onward_iff u r.0).0 r.1 in
      (r.0, k.0, sym r.2, rw r.2 at k.1)

  children_sorted : (u : List ℕ) → Sorted Before (children state alphabet u)
  unfolding children
  children_sorted u = sorted_map ◌<◌ Before (λ a. u ++ a ∷ []) (before_last u) (onward state alphabet u) (onward_sorted u)

  -- ── One turn ──

  abbrev list : ℕ → List (List ℕ)
  list turns = listed state alphabet turns

  at_turn : (these : List (List ℕ)) (i : ℕ) → i < length these → children_at state alphabet these i ≡ children state alphabet (get_or these i [])
  unfolding children_at
  at_turn these i h = rw (lt-ltb i (length these) h)

  past_end : (these : List (List ℕ)) (i : ℕ) → length these ≤ i → children_at state alphabet these i ≡ []
  unfolding children_at
  past_end these i h = rw (le-ltb i (length these) h)

  -- A turn adds the children of the state whose turn it is; past the end of the list it adds nothing.
  pub listed_turn : (i : ℕ) → i < length (list i)
      → list (suc i) ≡ list i ++ children state alphabet (get_or (list i) i [])
  unfolding listed
  listed_turn i h = rw (at_turn (list i) i h)

  listed_idle : (i : ℕ) → length (list i) ≤ i → list (suc i) ≡ list i
  unfolding listed
  listed_idle i h = rw (past_end (list i) i h, append-nil)

  -- ── What is listed stays where it is ──

  listed_longer : (i j : ℕ) → i ≤ j → (rest : List (List ℕ)) × (list j ≡ list i ++ rest)
  unfolding listed
  listed_longer i zero h = let e : i ≡ 0 = omega arith in ([], rw e refl)
  listed_longer i (suc j) h = ⊎_elim
      (λ (k : i ≤ j).
      let more : List (List ℕ) = children_at state alphabet (list j) j in
      let r = listed_longer i j k in
      (r.0 ++ more, ap {B = List (List ℕ)} (λ l. l ++ more) r.1 ∙ append_assoc (list i) r.0 more))
      (λ (e : i ≡ suc j). ([], rw e (sym (append-nil _))))
      (le-suc_iff.0 h)

  pub listed_same : (d : List ℕ) (k i j : ℕ) → i ≤ j → k < length (list i)
      → get_or (list j) k d ≡ get_or (list i) k d
  listed_same d k i j h l = let r = listed_longer i j h in rw r.1 (get_or-append (list i) r.0 d k l)

  pub length_grows : (i j : ℕ) → i ≤ j → length (list i) ≤ length (list j)
  length_grows i j h = let r = listed_longer i j h in omega (arith, ap length r.1, length-append (list i) r.0)

  -- Once every listed state has had its turn, nothing is added any more.
  pub listed_ends : (i j : ℕ) → i ≤ j → length (list i) ≤ i → list j ≡ list i
  listed_ends i zero h l = let e : i ≡ 0 = omega arith in rw e refl
  listed_ends i (suc j) h l = ⊎_elim
      (λ (k : i ≤ j).
      let e : list j ≡ list i = listed_ends i j k l in
      listed_idle j (omega (arith, ap length e)) ∙ e)
      (λ (e : i ≡ suc j). rw e refl)
      (le-suc_iff.0 h)

  -- A state that is listed at all is listed when its turn comes.
  pub listed_in_time : (i j : ℕ) → i ≤ j → i < length (list j) → i < length (list i)
  listed_in_time i j h l = ⊎_elim
      (λ k. k)
      (λ (k : length (list i) ≤ i). absurd (omega (arith, ap length (listed_ends i j h k))))
      (less_or_not i (length (list i)))

  -- ── What is listed ──

  -- The string v was added as a child, in the turn of an earlier element.
  record Added (turns : ℕ) (v : List ℕ) : Type 0 where
    parent : ℕ
    byte : ℕ
    turned : parent < turns
    inside : parent < length (list turns)
    is : v ≡ get_or (list turns) parent [] ++ byte ∷ []
    is_state : So (state v)

  listed_as_lem : (turns : ℕ) (v : List ℕ) → Memᴰ v (list turns) → (v ≡ []) ⊎ Added turns v
  unfolding listed
  listed_as_lem zero v m = inl (Memᴰ.eq_of_singleton m)
  listed_as_lem (suc i) v m = ⊎_elim
      (λ k. old (listed_as_lem i v k))
      (λ k. new (less_or_not i (length (list i))) k)
      (Memᴰ.append_cases (list i) m)
    where
      more : length (list i) ≤ length (list (suc i))
      more = length_grows i (suc i) (omega arith)

      old : (v ≡ []) ⊎ Added i v → (v ≡ []) ⊎ Added (suc i) v
      old (inl e) = inl e
      old (inr c) = inr (record {
        parent = c.parent;
        byte = c.byte;
        turned = omega arith;
        inside = omega (arith, more);
        is = c.is ∙ ap {B = List ℕ} (λ z. z ++ c.byte ∷ []) (sym (listed_same [] c.parent i (suc i) (omega arith) c.inside));
        is_state = c.is_state;
      })

      new : (i < length (list i)) ⊎ (length (list i) ≤ i)
          → Memᴰ v (children_at state alphabet (list i) i) → (v ≡ []) ⊎ Added (suc i) v
      new (inl l) k =
          let r = children_in (get_or (list i) i []) v (rw (at_turn (list i) i l) at k) in
          inr (record {
            parent = i;
            byte = r.0;
            turned = omega arith;
            inside = omega (arith, more);
            is = r.2 ∙ ap {B = List ℕ} (λ z. z ++ r.0 ∷ []) (sym (listed_same [] i i (suc i) (omega arith) l));
            is_state = r.3;
          })
      new (inr l) k = absurd (Memᴰ.not-nil (rw (past_end (list i) i l) at k))

  -- Only states are listed.
  pub listed_state : So (state []) → (turns : ℕ) (v : List ℕ) → Memᴰ v (list turns) → So (state v)
  listed_state empty turns v m = ⊎_elim (λ (e : v ≡ []). rw e empty) (λ (c : Added turns v). c.is_state) (listed_as_lem turns v m)

  -- The list is in order: by length, then by bytes.
  pub listed_sorted : (turns : ℕ) → Sorted Before (list turns)
  unfolding listed
  listed_sorted zero = sorted_one Before []
  listed_sorted (suc i) = go (less_or_not i (length (list i))) (listed_sorted i)
    where
      go : (i < length (list i)) ⊎ (length (list i) ≤ i) → Sorted Before (list i)
          → Sorted Before (list i ++ children_at state alphabet (list i) i)
      go (inr l) s = rw (past_end (list i) i l, append-nil) s
      go (inl l) s = rw (at_turn (list i) i l) (sorted_append Before (list i) (children state alphabet u) s (children_sorted u) apart)
        where
          u : List ℕ
          u = get_or (list i) i []

          earlier : (v : List ℕ) (b : ℕ) → (v ≡ []) ⊎ Added i v → Before v (u ++ b ∷ [])
          earlier v b (inl e) = rw e (before_empty u b)
          earlier v b (inr c) = rw c.is
              (before_children (get_or (list i) c.parent []) u c.byte b (sorted_at Before [] (list i) s c.parent i c.turned l))

          apart : (v w : List ℕ) → Memᴰ v (list i) → Memᴰ w (children state alphabet u) → Before v w
          apart v w m k = let r = children_in u w k in rw r.2 (earlier v r.0 (listed_as_lem i v m))
