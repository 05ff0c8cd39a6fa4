-- A further keyword brings the prefixes that are longer than what it shares with an earlier one: of its prefixes, just those
-- up to that length are prefixes of an earlier keyword. Assumes nothing.
use mathlib.Core.Path.{◌≡◌, refl, sym, ap, ◌∙◌}
use mathlib.Core.Logic.{◌⊎◌, inl, inr, ⊎_elim}
use mathlib.Core.Bool.{Bool, true, false, So, cond, not, ◌&&◌, false≢true}
use mathlib.Core.List.Memᴰ
use mathlib.Core.List.{List, [], ◌∷◌, ◌++◌, map, Memᴰ}
use Prim.Native.Nat.{ℕ, zero, suc, ◌+◌, ◌-◌, ◌≤◌, ◌<◌, max}
use native.Mathlib.Omega.{arith}
use lib.Dec.{eqb, ltb, leb-suc-suc}
use lib.ListN.{length, length-append}
use borrow.Author.Tests.{eqb-true, eq-eqb, lt-ltb, le-ltb}
use Rattle.meaning.specs.Automaton.{prefix, some_of}
use Rattle.meaning.specs.Reports.{choose}
use Rattle.format.specs.Prefixes.{nonempty_prefixes, different_prefixes, prefix_count, common_prefix, most_shared}
use Rattle.format.proofs.Tests.{or_cases, or_left, or_right, both, and_left, and_right, less_or_not}
use Rattle.format.proofs.Prefixes.{nonempty_in, fresh, count_same}

-- ── Two keywords ──

-- A prefix of both is no longer than what they have in common,
common_longest : (u w v : List ℕ) → So (prefix u w) → So (prefix u v) → length u ≤ common_prefix w v
unfolding prefix common_prefix
common_longest [] w v h k = omega arith
common_longest (x ∷ u) [] v h k = absurd (false≢true h)
common_longest (x ∷ u) (y ∷ w) [] h k = absurd (false≢true k)
common_longest (x ∷ u) (y ∷ w) (z ∷ v) h k =
    let p : x ≡ y = eqb-true x y (and_left (eqb x y) (prefix u w) h) in
    let q : x ≡ z = eqb-true x z (and_left (eqb x z) (prefix u v) k) in
    let r : length u ≤ common_prefix w v = common_longest u w v (and_right (eqb x y) (prefix u w) h) (and_right (eqb x z) (prefix u v) k) in
    rw (eq-eqb y z (sym p ∙ q)) (omega arith)

-- and a prefix of one that is no longer is a prefix of the other.
common_prefix_lem : (u w v : List ℕ) → So (prefix u w) → length u ≤ common_prefix w v → So (prefix u v)
unfolding prefix common_prefix
common_prefix_lem [] w v h k = refl
common_prefix_lem (x ∷ u) [] v h k = absurd (false≢true h)
common_prefix_lem (x ∷ u) (y ∷ w) [] h k = absurd (omega arith)
common_prefix_lem (x ∷ u) (y ∷ w) (z ∷ v) h k = go (eqb y z) refl k (common_prefix_lem u w v (and_right (eqb x y) (prefix u w) h))
  where
    p : x ≡ y
    p = eqb-true x y (and_left (eqb x y) (prefix u w) h)

    go : (t : Bool) → eqb y z ≡ t → suc (length u) ≤ cond t (1 + common_prefix w v) 0 → (length u ≤ common_prefix w v → So (prefix u v))
        → So (eqb x z && prefix u v)
    go true e l ih = both (eqb x z) (prefix u v) (eq-eqb x z (p ∙ eqb-true y z e)) (ih (omega arith))
    go false e l ih = absurd (omega arith)

-- What two keywords have in common is no longer than the first,
pub common_short : (w v : List ℕ) → common_prefix w v ≤ length w
unfolding common_prefix
common_short [] v = omega arith
common_short (x ∷ w) [] = omega arith
common_short (x ∷ w) (y ∷ v) = go (eqb x y) (common_short w v)
  where
    go : (t : Bool) → common_prefix w v ≤ length w → cond t (1 + common_prefix w v) 0 ≤ suc (length w)
    go true h = omega arith
    go false h = omega arith

-- ── A keyword and the earlier ones ──

at_least_one : (x y k : ℕ) → k ≤ max x y → (k ≤ x) ⊎ (k ≤ y)
at_least_one x y k h = ⊎_elim (λ (l : x < k). inr (omega arith)) (λ (l : k ≤ x). inl l) (less_or_not x k)

-- and so is what a keyword shares with any of some.
pub shared_short : (ws : List (List ℕ)) (w : List ℕ) → most_shared ws w ≤ length w
unfolding most_shared
shared_short [] w = omega arith
shared_short (v ∷ ws) w = omega (arith, common_short w v, shared_short ws w)

-- What is shared can be found from the first keyword to the last.
pub shared_further : (ws : List (List ℕ)) (v w : List ℕ) → most_shared (ws ++ v ∷ []) w ≡ max (most_shared ws w) (common_prefix w v)
unfolding most_shared
shared_further [] v w = omega arith
shared_further (u ∷ ws) v w = omega (arith, shared_further ws v w)

-- Of a keyword's prefixes, those of an earlier keyword are no longer than what it shares,
shared_longest : (ws : List (List ℕ)) (w u : List ℕ) → So (prefix u w) → So (some_of (prefix u) ws) → length u ≤ most_shared ws w
unfolding most_shared some_of
shared_longest [] w u h k = absurd (false≢true k)
shared_longest (v ∷ ws) w u h k = ⊎_elim
    (λ p. omega (arith, common_longest u w v h p))
    (λ p. omega (arith, shared_longest ws w u h p))
    (or_cases (prefix u v) (some_of (prefix u) ws) k)

-- and those that are not empty and no longer are prefixes of an earlier keyword.
shared_prefix : (ws : List (List ℕ)) (w u : List ℕ) → So (prefix u w) → 0 < length u → length u ≤ most_shared ws w → So (some_of (prefix u) ws)
unfolding most_shared some_of
shared_prefix [] w u h l k = absurd (omega arith)
shared_prefix (v ∷ ws) w u h l k = ⊎_elim
    (λ p. or_left (prefix u v) (some_of (prefix u) ws) (common_prefix_lem u w v h p))
    (λ p. or_right (prefix u v) (some_of (prefix u) ws) (shared_prefix ws w u h l p))
    (at_least_one (common_prefix w v) (most_shared ws w) (length u) k)

-- ── What a further keyword brings ──

chosen_map : (test : List ℕ → Bool) (g : List ℕ → List ℕ) (us : List (List ℕ)) → length (choose test (map g us)) ≡ length (choose (λ u. test (g u)) us)
unfolding choose
chosen_map test g [] = refl
chosen_map test g (u ∷ us) = go (test (g u)) (choose test (map g us)) (choose (λ u. test (g u)) us) (chosen_map test g us)
  where
    go : (t : Bool) (xs ys : List (List ℕ)) → length xs ≡ length ys → length (cond t (g u ∷ xs) xs) ≡ length (cond t (u ∷ ys) ys)
    go true xs ys e = ap suc e
    go false xs ys e = e

-- How many prefixes of a keyword are left when those up to a length go.
left_over : (test : List ℕ → Bool) (w : List ℕ) (k : ℕ) → ((u : List ℕ) → Memᴰ u (nonempty_prefixes w) → test u ≡ ltb k (length u))
    → length (choose test (nonempty_prefixes w)) ≡ length w - k
unfolding nonempty_prefixes choose
left_over test [] k h = omega arith
left_over test (x ∷ w) zero h =
    let r : length (choose (λ u. test (x ∷ u)) (nonempty_prefixes w)) ≡ length w - 0 = left_over (λ u. test (x ∷ u)) w zero (λ u m.
    h (x ∷ u) (Memᴰ.tail (Memᴰ.map (λ u. x ∷ u) m)) ∙ lt-ltb 0 (suc (length u)) (omega arith) ∙ sym (lt-ltb 0 (length u) (nonempty_in w u m).1)) in
    rw (h (x ∷ []) (Memᴰ.head refl)) (omega (arith, chosen_map test (λ u. x ∷ u) (nonempty_prefixes w)))
left_over test (x ∷ w) (suc k) h =
    let r : length (choose (λ u. test (x ∷ u)) (nonempty_prefixes w)) ≡ length w - k = left_over (λ u. test (x ∷ u)) w k (λ u m.
    h (x ∷ u) (Memᴰ.tail (Memᴰ.map (λ u. x ∷ u) m)) ∙ leb-suc-suc (suc k) (length u)) in
    rw (h (x ∷ []) (Memᴰ.head refl), le-ltb (suc k) 1 (omega arith)) (omega (arith, chosen_map test (λ u. x ∷ u) (nonempty_prefixes w)))

-- It does not matter whether a keyword comes first or last.
first_or_last : (ws : List (List ℕ)) (w : List ℕ) → prefix_count (ws ++ w ∷ []) ≡ prefix_count (w ∷ ws)
first_or_last ws w = count_same (ws ++ w ∷ []) (w ∷ ws) (λ v. (
  λ m. ⊎_elim (λ k. Memᴰ.tail k) (λ k. Memᴰ.head (Memᴰ.eq_of_singleton k)) (Memᴰ.append_cases ws m),
  λ m. ⊎_elim (λ e. Memᴰ.append_right ws (Memᴰ.head e)) (λ k. Memᴰ.append_left (w ∷ []) k) (Memᴰ.cases_cons m),
))

-- A further keyword brings as many different prefixes as it has bytes past what it shares with an earlier one.
pub count_further : (ws : List (List ℕ)) (w : List ℕ) → prefix_count (ws ++ w ∷ []) ≡ prefix_count ws + (length w - most_shared ws w)
unfolding prefix_count different_prefixes
count_further ws w =
    let r : length (choose (fresh ws) (nonempty_prefixes w)) ≡ length w - most_shared ws w =
    left_over (fresh ws) w (most_shared ws w) (λ u m. past u (nonempty_in w u m)) in
    first_or_last ws w ∙ length-append (choose (fresh ws) (nonempty_prefixes w)) (different_prefixes ws) ∙ omega arith
  where
    longer_or_not : (v : Bool) (m n : ℕ) → (So v → n ≤ m) → (n ≤ m → So v) → not v ≡ ltb m n
    longer_or_not true m n f g = sym (le-ltb m n (f refl))
    longer_or_not false m n f g = sym (⊎_elim (λ (h : m < n). lt-ltb m n h) (λ (h : n ≤ m). absurd (false≢true (g h))) (less_or_not m n))

    past : (u : List ℕ) → So (prefix u w) × (0 < length u) → fresh ws u ≡ ltb (most_shared ws w) (length u)
    past u h = longer_or_not (some_of (prefix u) ws) (most_shared ws w) (length u) (shared_longest ws w u h.0) (shared_prefix ws w u h.0 h.1)
