-- The different prefixes are just the nonempty prefixes of the keywords, each once: those of the first keyword that stay out are
-- there already by a later one. Assumes nothing.
use mathlib.Core.Path.{◌≡◌, refl, ap}
use mathlib.Core.Logic.{◌↔◌, ⊎_elim}
use mathlib.Core.Bool.{Bool, true, So, not, false≢true}
use mathlib.Core.List.Memᴰ
use mathlib.Core.List.{List, [], ◌∷◌, ◌++◌, Memᴰ}
use Prim.Native.Nat.{ℕ, ◌≤◌, ◌<◌}
use native.Mathlib.Omega.{arith}
use lib.Dec.{eqb}
use lib.ListN.{length}
use borrow.Author.Tests.{eqb-true, eq-eqb}
use Rattle.meaning.specs.Automaton.{Prefix, prefix, some_of}
use Rattle.meaning.specs.Reports.{choose, Sorted}
use Rattle.meaning.proofs.Tests.{prefix_iff}
use Rattle.meaning.proofs.States.{some_of_iff}
use Rattle.meaning.proofs.Reports.{choose_iff}
use Rattle.meaning.proofs.Sorted.{sorted_append}
use Rattle.format.specs.Prefixes.{nonempty_prefixes, different_prefixes, prefix_count}
use Rattle.format.proofs.Tests.{or_cases, or_left, or_right, both, and_left, and_right, true_or_not, never_both}
use Rattle.format.proofs.Chosen.{sorted_chosen, sorted_map, no_longer}

-- ── The nonempty prefixes of one keyword ──

-- They are prefixes and not empty,
pub nonempty_in : (w u : List ℕ) → Memᴰ u (nonempty_prefixes w) → So (prefix u w) × (0 < length u)
unfolding nonempty_prefixes prefix
nonempty_in [] u m = absurd (Memᴰ.not-nil m)
nonempty_in (x ∷ w) u m = ⊎_elim
    (λ (e : u ≡ x ∷ []). rw e (both (eqb x x) true (eq-eqb x x refl) refl, omega arith))
    (λ k. longer (Memᴰ.of_map (λ v. x ∷ v) (nonempty_prefixes w) k) (nonempty_in w))
    (Memᴰ.cases_cons m)
  where
    longer : (v : List ℕ) × Memᴰ v (nonempty_prefixes w) × (x ∷ v ≡ u)
        → ((v : List ℕ) → Memᴰ v (nonempty_prefixes w) → So (prefix v w) × (0 < length v))
        → So (prefix u (x ∷ w)) × (0 < length u)
    longer r ih = rw (← r.2) (both (eqb x x) (prefix r.0 w) (eq-eqb x x refl) (ih r.0 r.1).0, omega arith)

-- all of them,
in_nonempty : (w u : List ℕ) → So (prefix u w) → 0 < length u → Memᴰ u (nonempty_prefixes w)
unfolding nonempty_prefixes prefix
in_nonempty w [] h l = absurd (omega arith)
in_nonempty [] (x ∷ u) h l = absurd (false≢true h)
in_nonempty (y ∷ w) (x ∷ []) h l =
    let e : x ≡ y = eqb-true x y (and_left (eqb x y) true h) in
    Memᴰ.head (ap {B = List ℕ} (λ z. z ∷ []) e)
in_nonempty (y ∷ w) (x ∷ z ∷ u) h l =
    let e : x ≡ y = eqb-true x y (and_left (eqb x y) (prefix (z ∷ u) w) h) in
    rw e (Memᴰ.tail (Memᴰ.map (λ v. y ∷ v) (in_nonempty w (z ∷ u) (and_right (eqb x y) (prefix (z ∷ u) w) h) (omega arith))))

-- and each once.
nonempty_once : (w : List ℕ) → Sorted (λ (u v : List ℕ). u ≡ v → ⊥) (nonempty_prefixes w)
unfolding nonempty_prefixes Sorted
nonempty_once [] = tt
nonempty_once (x ∷ w) = (
  λ y m e. let r = Memᴰ.of_map (λ v. x ∷ v) (nonempty_prefixes w) m in omega (arith, ap length e, ap length r.2, (nonempty_in w r.0 r.1).1),
  sorted_map (λ (u v : List ℕ). u ≡ v → ⊥) (λ (u v : List ℕ). u ≡ v → ⊥) (λ u. x ∷ u) (λ a b h e. h (cc)) (nonempty_prefixes w) (nonempty_once w),
)

-- ── The different prefixes of all keywords ──

-- None of some keywords has the prefix.
abbrev pub fresh : List (List ℕ) → List ℕ → Bool
fresh ws u = not (some_of (prefix u) ws)

-- The prefixes of the first keyword that no later one has.
abbrev own : List ℕ → List (List ℕ) → List (List ℕ)
own w ws = choose (fresh ws) (nonempty_prefixes w)

pub different_in : (ws : List (List ℕ)) (u : List ℕ) → Memᴰ u (different_prefixes ws) → So (some_of (prefix u) ws) × (0 < length u)
unfolding different_prefixes some_of
different_in [] u m = absurd (Memᴰ.not-nil m)
different_in (w ∷ ws) u m = ⊎_elim
    (λ k. let r = nonempty_in w u ((choose_iff (fresh ws) (nonempty_prefixes w) u).0 k).0 in (or_left (prefix u w) (some_of (prefix u) ws) r.0, r.1))
    (λ k. let r = different_in ws u k in (or_right (prefix u w) (some_of (prefix u) ws) r.0, r.1))
    (Memᴰ.append_cases (own w ws) m)

pub in_different : (ws : List (List ℕ)) (u : List ℕ) → So (some_of (prefix u) ws) → 0 < length u → Memᴰ u (different_prefixes ws)
unfolding different_prefixes some_of
in_different [] u h l = absurd (false≢true h)
in_different (w ∷ ws) u h l = ⊎_elim
    (λ (k : So (some_of (prefix u) ws)). Memᴰ.append_right (own w ws) (in_different ws u k l))
    (λ (k : So (not (some_of (prefix u) ws))). ⊎_elim
    (λ (p : So (prefix u w)). Memᴰ.append_left (different_prefixes ws) ((choose_iff (fresh ws) (nonempty_prefixes w) u).1 (in_nonempty w u p l, k)))
    (λ (p : So (some_of (prefix u) ws)). absurd (never_both (some_of (prefix u) ws) k p))
    (or_cases (prefix u w) (some_of (prefix u) ws) h))
    (true_or_not (some_of (prefix u) ws))

-- Some bytes are among the different prefixes exactly when they are not empty and a prefix of one of the keywords.
pub different_iff : (ws : List (List ℕ)) (u : List ℕ) → Memᴰ u (different_prefixes ws) ↔ ((0 < length u) × ((w : List ℕ) × Memᴰ w ws × Prefix u w))
different_iff ws u = (
  λ m. let r = different_in ws u m in let k = (some_of_iff (prefix u) ws).0 r.0 in (r.1, (k.0, k.1, (prefix_iff u k.0).0 k.2)),
  λ h. in_different ws u ((some_of_iff (prefix u) ws).1 (h.1.0, h.1.1, (prefix_iff u h.1.0).1 h.1.2)) h.0,
)

-- None of them stands there twice.
pub different_once : (ws : List (List ℕ)) → Sorted (λ (u v : List ℕ). u ≡ v → ⊥) (different_prefixes ws)
unfolding different_prefixes Sorted
different_once [] = tt
different_once (w ∷ ws) = sorted_append (λ (u v : List ℕ). u ≡ v → ⊥) (own w ws) (different_prefixes ws)
    (sorted_chosen (λ (u v : List ℕ). u ≡ v → ⊥) (fresh ws) (nonempty_prefixes w) (nonempty_once w)) (different_once ws)
    (λ x y p q e. never_both (some_of (prefix y) ws) (rw e at ((choose_iff (fresh ws) (nonempty_prefixes w) x).0 p).1) (different_in ws y q).0)

-- ── Their number ──

-- Keywords that are all among others have no more different prefixes than those.
pub count_within : (ws vs : List (List ℕ)) → ((w : List ℕ) → Memᴰ w ws → Memᴰ w vs) → prefix_count ws ≤ prefix_count vs
unfolding prefix_count
count_within ws vs h = no_longer (different_prefixes ws) (different_prefixes vs) (different_once ws) (λ u m.
    let r = different_in ws u m in
    let k = (some_of_iff (prefix u) ws).0 r.0 in
    in_different vs u ((some_of_iff (prefix u) vs).1 (k.0, h k.0 k.1, k.2)) r.1)

-- So neither the order of the keywords nor how often one stands there matters.
pub count_same : (ws vs : List (List ℕ)) → ((w : List ℕ) → Memᴰ w ws ↔ Memᴰ w vs) → prefix_count ws ≡ prefix_count vs
count_same ws vs h = omega (arith, count_within ws vs (λ w. (h w).0), count_within vs ws (λ w. (h w).1))

-- Further keywords take no prefix away.
pub count_grows : (ws vs : List (List ℕ)) → prefix_count ws ≤ prefix_count (ws ++ vs)
count_grows ws vs = count_within ws (ws ++ vs) (λ w m. Memᴰ.append_left vs m)
