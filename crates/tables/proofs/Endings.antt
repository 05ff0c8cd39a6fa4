-- The pieces that end in a state are those of its suffixes; a suffix that no keyword is brings none, so only the states among them count.
-- Assumes nothing.
use mathlib.Core.Path.{◌≡◌, refl, sym, ap, ◌∙◌}
use mathlib.Core.Logic.{◌↔◌, ⊎_elim}
use mathlib.Core.Bool.{Bool, true, false, So, cond, false≢true}
use mathlib.Core.List.Memᴰ
use mathlib.Core.List.{List, [], ◌∷◌, ◌++◌, Memᴰ}
use Prim.Native.Nat.{ℕ, zero, suc, ◌+◌, ◌≤◌, ◌<◌}
use native.Mathlib.Omega.{arith}
use lib.ListN.{length, length-append}
use Rattle.meaning.specs.Books.{Book}
use Rattle.meaning.specs.Reports.{Sorted}
use Rattle.meaning.specs.Automaton.{Suffix, is_state, after, failure, suffixes}
use Rattle.meaning.proofs.Sorted.{sorted_append}
use Rattle.meaning.proofs.Suffixes.{suffixes_iff, suffixes_fall, suffix_length}
use Rattle.meaning.proofs.States.{keyword_state}
use Rattle.format.specs.Limits.{Within}
use Rattle.format.proofs.Chosen.{no_longer}
use Rattle.numbering.specs.Listed.{below}
use Rattle.numbering.proofs.Lists.{sorted_weaken, below_iff}
use Rattle.tables.specs.Spots.{spots_of, spot_count}
use Rattle.tables.specs.Endings.{pieces_with, pieces_with_each, endings, keyword_of}
use Rattle.tables.proofs.Spots.{placed}
use Rattle.tables.proofs.Pieces.{own_iff, with_ascend}

none_in : (l : List ℕ) → ((p : ℕ) → Memᴰ p l → ⊥) → l ≡ []
none_in [] h = refl
none_in (p ∷ l) h = absurd (h p (Memᴰ.head refl))

length_below : (n : ℕ) → length (below n) ≡ n
unfolding below
length_below zero = refl
length_below (suc n) = length-append (below n) (n ∷ []) ∙ (let z : length (below n) + 1 ≡ suc n = omega (arith, length_below n) in z)

module _ (book : Book) where
  each_iff : (keys : List (List ℕ)) (p : ℕ) → Memᴰ p (pieces_with_each keys (spots_of book)) ↔ ((p < spot_count book) × Memᴰ (keyword_of book p) keys)
  unfolding pieces_with_each
  each_iff [] p = (λ m. absurd (Memᴰ.not-nil m), λ h. absurd (Memᴰ.not-nil h.1))
  each_iff (key ∷ keys) p = (
    λ m. ⊎_elim
        (λ k. let h = (own_iff book key p).0 k in (h.0, Memᴰ.head h.1))
        (λ k. let h = (each_iff keys p).0 k in (h.0, Memᴰ.tail h.1))
        (Memᴰ.append_cases (pieces_with key 0 (spots_of book)) m),
    λ h. ⊎_elim
        (λ e. Memᴰ.append_left (pieces_with_each keys (spots_of book)) ((own_iff book key p).1 (h.0, e)))
        (λ k. Memᴰ.append_right (pieces_with key 0 (spots_of book)) ((each_iff keys p).1 (h.0, k)))
        (Memᴰ.cases_cons h.1),
  )

  -- The pieces that end in a state are exactly those whose keyword is a suffix of it.
  pub endings_iff : (u : List ℕ) (p : ℕ) → Memᴰ p (endings book u) ↔ ((p < spot_count book) × Suffix (keyword_of book p) u)
  unfolding endings
  endings_iff u p = (
    λ m. let h = (each_iff (suffixes u) p).0 m in (h.0, (suffixes_iff u (keyword_of book p)).0 h.1),
    λ h. (each_iff (suffixes u) p).1 (h.0, (suffixes_iff u (keyword_of book p)).1 h.1),
  )

  each_once : (keys : List (List ℕ)) → Sorted (λ s r. length r < length s) keys → Sorted (λ (p q : ℕ). p ≡ q → ⊥) (pieces_with_each keys (spots_of book))
  unfolding pieces_with_each Sorted
  each_once [] s = tt
  each_once (key ∷ keys) s =
      sorted_append (λ (p q : ℕ). p ≡ q → ⊥) (pieces_with key 0 (spots_of book)) (pieces_with_each keys (spots_of book))
      (sorted_weaken ◌<◌ (λ p q. p ≡ q → ⊥) (λ p q l e. omega arith) (pieces_with key 0 (spots_of book)) (with_ascend key 0 (spots_of book)))
      (each_once keys s.1)
      (λ p q m k e. let same : keyword_of book q ≡ key = ap (keyword_of book) (sym e) ∙ ((own_iff book key p).0 m).1 in
      omega (arith, ap length same, s.0 (keyword_of book q) ((each_iff keys q).0 k).1))

  -- Each stands there once: pieces of one keyword ascend, and no two suffixes are the same.
  pub endings_once : (u : List ℕ) → Sorted (λ (p q : ℕ). p ≡ q → ⊥) (endings book u)
  unfolding endings
  endings_once u = each_once (suffixes u) (suffixes_fall u)

  -- There are at most as many as the book has pieces.
  pub endings_few : (u : List ℕ) → length (endings book u) ≤ spot_count book
  endings_few u = rw length_below at (no_longer (endings book u) (below (spot_count book)) (endings_once u) (λ p m. (below_iff (spot_count book) p).1 ((endings_iff u p).0 m).0))

  -- ── Along the failures ──

  module _ (within : Within book) where
    -- Bytes that are no state are no keyword.
    no_piece : (u : List ℕ) → is_state book u ≡ false → pieces_with u 0 (spots_of book) ≡ []
    unfolding keyword_of
    no_piece u e = none_in (pieces_with u 0 (spots_of book)) (λ p m.
        let h = (own_iff book u p).0 m in
        let state : So (is_state book u) = rw h.1 at (keyword_state book (keyword_of book p) ((placed book within).listed p h.0)) in
        false≢true (sym e ∙ state))

    -- What ends after some bytes ends in the state after them.
    pub endings_after : (u : List ℕ) → endings book u ≡ endings book (after (is_state book) u)
    unfolding endings suffixes pieces_with_each after
    endings_after [] = refl
    endings_after (x ∷ u) = go (is_state book (x ∷ u)) refl (endings_after u)
      where
        go : (v : Bool) → is_state book (x ∷ u) ≡ v → endings book u ≡ endings book (after (is_state book) u)
            → pieces_with (x ∷ u) 0 (spots_of book) ++ endings book u ≡ endings book (cond v (x ∷ u) (after (is_state book) u))
        go true e ih = refl
        go false e ih = rw (no_piece (x ∷ u) e) ih

    -- In a nonempty state end its own pieces, and then those that end in its failure.
    pub endings_failure : (x : ℕ) (u : List ℕ) → endings book (x ∷ u) ≡ pieces_with (x ∷ u) 0 (spots_of book) ++ endings book (failure (is_state book) (x ∷ u))
    unfolding endings suffixes pieces_with_each failure
    endings_failure x u = ap {B = List ℕ} (λ l. pieces_with (x ∷ u) 0 (spots_of book) ++ l) (endings_after u)

    -- In the empty state none ends.
    pub endings_empty : endings book [] ≡ []
    unfolding keyword_of
    endings_empty = none_in (endings book []) (λ p m.
        let h = (endings_iff [] p).0 m in
        omega (arith, ((placed book within).within p h.0).long.0, suffix_length h.1))

    -- So in any state end its own pieces, of which the empty one has none, and then those that end in its failure.
    pub endings_split : (u : List ℕ) → endings book u ≡ pieces_with u 0 (spots_of book) ++ endings book (failure (is_state book) u)
    unfolding endings suffixes pieces_with_each failure
    endings_split [] = ap {B = List ℕ} (λ l. pieces_with [] 0 (spots_of book) ++ l) (sym endings_empty)
    endings_split (x ∷ u) = endings_failure x u
