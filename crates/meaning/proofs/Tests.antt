-- Each test of a match says exactly what the statement beside it says: test and statement take the bytes apart alike.
-- Assumes nothing.
use mathlib.Core.Path.{◌≡◌, refl, ap}
use mathlib.Core.Logic.{◌↔◌, ⊎_elim}
use mathlib.Core.Bool.{Bool, So, ◌&&◌, ◌||◌, false≢true}
use mathlib.Core.List.{List, [], ◌∷◌, ◌++◌}
use Prim.Native.Nat.{ℕ, zero, suc, ◌+◌, ◌-◌, ◌≤◌}
use native.Mathlib.Omega.{arith}
use native.Mathlib.Nat.{le-suc_iff}
use lib.Dec.{eqb}
use lib.ListN.{length, take}
use borrow.Author.Tests.{leb-true, le-leb, eqb-true, eq-eqb}
use Rattle.meaning.specs.Books.{Gap, bounded, open_from, Piece, Phrase, Book, width_in}
use Rattle.meaning.specs.Matching.{Admits, Fills, bytes_after, Follows, Ends, Matches, admits, same, suffix, fills, some_up_to, follows, ends, matches}
use Rattle.meaning.specs.Automaton.{Prefix, Suffix, prefix}
use Rattle.meaning.proofs.Truth.{both, and_left, and_right, or_cases, or_left, or_right}

-- ── Bytes ──

pub same_iff : (x y : List ℕ) → So (same x y) ↔ (x ≡ y)
unfolding same
same_iff [] [] = (λ h. refl, λ e. refl)
same_iff [] (y ∷ ys) = (λ h. absurd (false≢true h), λ e. cc)
same_iff (x ∷ xs) [] = (λ h. absurd (false≢true h), λ e. cc)
same_iff (x ∷ xs) (y ∷ ys) = (
  λ h. let p : x ≡ y = eqb-true x y (and_left (eqb x y) (same xs ys) h) in
      let q : xs ≡ ys = (same_iff xs ys).0 (and_right (eqb x y) (same xs ys) h) in
      cc,
  λ e. both (eqb x y) (same xs ys) (eq-eqb x y (cc)) ((same_iff xs ys).1 (cc)),
)

pub prefix_iff : (start whole : List ℕ) → So (prefix start whole) ↔ Prefix start whole
unfolding prefix
prefix_iff [] whole = (λ h. record { rest = whole; split = refl }, λ p. refl)
prefix_iff (x ∷ xs) [] = (λ h. absurd (false≢true h), λ p. let e : ◌≡◌ {A = List ℕ} (x ∷ (xs ++ p.rest)) [] = p.split in cc)
prefix_iff (x ∷ xs) (y ∷ ys) = (
  λ h. let e : x ≡ y = eqb-true x y (and_left (eqb x y) (prefix xs ys) h) in
      let p : Prefix xs ys = (prefix_iff xs ys).0 (and_right (eqb x y) (prefix xs ys) h) in
      record { rest = p.rest; split = cc },
  λ p. let e : x ∷ (xs ++ p.rest) ≡ y ∷ ys = p.split in
      both (eqb x y) (prefix xs ys) (eq-eqb x y (cc)) ((prefix_iff xs ys).1 (record { rest = p.rest; split = cc })),
)

pub suffix_iff : (end whole : List ℕ) → So (suffix end whole) ↔ Suffix end whole
unfolding suffix
suffix_iff end [] = (
  λ h. record { before = []; split = (same_iff end []).0 h },
  λ s. (same_iff end []).1 (empty s.before s.split),
)
  where
    empty : (before : List ℕ) → before ++ end ≡ [] → end ≡ []
    empty [] e = e
    empty (x ∷ xs) e = cc
suffix_iff end (y ∷ ys) = (
  λ h. ⊎_elim
      (λ p. record { before = []; split = (same_iff end (y ∷ ys)).0 p })
      (λ p. let s : Suffix end ys = (suffix_iff end ys).0 p in
      record { before = y ∷ s.before; split = ap {B = List ℕ} (λ l. y ∷ l) s.split })
      (or_cases (same end (y ∷ ys)) (suffix end ys) h),
  λ s. from s.before s.split (suffix_iff end ys).1,
)
  where
    from : (before : List ℕ) → before ++ end ≡ y ∷ ys → (Suffix end ys → So (suffix end ys)) → So (same end (y ∷ ys) || suffix end ys)
    from [] e ih = or_left (same end (y ∷ ys)) (suffix end ys) ((same_iff end (y ∷ ys)).1 e)
    from (x ∷ xs) e ih = or_right (same end (y ∷ ys)) (suffix end ys) (ih (record { before = xs; split = cc }))

-- ── Matches ──

pub fills_iff : (keyword letter : List ℕ) (place : ℕ) → So (fills keyword letter place) ↔ Fills keyword letter place
unfolding fills
fills_iff keyword letter place = (
  λ h. let s : Suffix keyword (take place letter) = (suffix_iff keyword (take place letter)).0 (search (and_right)) in
      record { before = s.before; split = s.split; inside = leb-true place (length letter) (search (and_left)) },
  λ f. both _ _ (le-leb place (length letter) f.inside)
      ((suffix_iff keyword (take place letter)).1 (record { before = f.before; split = f.split })),
)

pub admits_iff : (gap : Gap) (width : ℕ) → So (admits gap width) ↔ Admits gap width
unfolding admits Admits
admits_iff (bounded least most) width = (
  λ h. (leb-true _ _ (search (and_left)), leb-true _ _ (search (and_right))),
  λ a. both _ _ (le-leb _ _ a.0) (le-leb _ _ a.1),
)
admits_iff (open_from least) width = (leb-true _ _, le-leb _ _)

pub some_up_to_iff : (test : ℕ → Bool) (n : ℕ) → So (some_up_to test n) ↔ ((k : ℕ) × (k ≤ n) × So (test k))
unfolding some_up_to
some_up_to_iff test zero = (
  λ h. (zero, omega arith, h),
  λ r. let e : r.0 ≡ 0 = omega arith in rw e at r.2,
)
some_up_to_iff test (suc n) = (
  λ h. ⊎_elim
      (λ p. (suc n, omega arith, p))
      (λ p. let r : (k : ℕ) × (k ≤ n) × So (test k) = (some_up_to_iff test n).0 p in (r.0, omega arith, r.2))
      (or_cases (test (suc n)) (some_up_to test n) h),
  λ r. ⊎_elim
      (λ (l : r.0 ≤ n). or_right (test (suc n)) (some_up_to test n) ((some_up_to_iff test n).1 (r.0, l, r.2)))
      (λ (e : r.0 ≡ suc n). or_left (test (suc n)) (some_up_to test n) (rw e at r.2))
      (le-suc_iff.0 r.1),
)

module _ (width : List ℕ → ℕ) (letter : List ℕ) where
  pub follows_iff : (piece : Piece) (previous place : ℕ)
      → So (follows width letter piece previous place) ↔ Follows width letter piece previous place
  unfolding follows
  follows_iff piece previous place = (
    λ h. let l : previous + size ≤ place = leb-true _ _ (search (and_left, and_right)) in
        record {
          filled = (fills_iff piece.keyword letter place).0 (search (and_left));
          between = place - size - previous;
          spans = omega arith;
          admitted = (admits_iff piece.gap (width (bytes_after previous (place - size - previous) letter))).0 (search (and_right));
        },
    λ f. let k : place - size - previous ≡ f.between = omega arith in
        both _ _ ((fills_iff piece.keyword letter place).1 f.filled)
        (both _ _ (le-leb (previous + size) place (omega arith))
        (rw k ((admits_iff piece.gap (width (bytes_after previous f.between letter))).1 f.admitted))),
  )
    where
      size : ℕ
      size = length piece.keyword

  pub ends_iff : (pieces : List Piece) (previous place : ℕ)
      → So (ends width letter previous pieces place) ↔ Ends width letter previous pieces place
  unfolding ends Ends
  ends_iff [] previous place = (eqb-true previous place, eq-eqb previous place)
  ends_iff (piece ∷ rest) previous place = (
    λ h. let r = (some_up_to_iff (λ next. follows width letter piece previous next && ends width letter next rest place) (length letter)).0 h in
        (r.0, (follows_iff piece previous r.0).0 (search (and_left)), (ends_iff rest r.0 place).0 (search (and_right))),
    λ m. (some_up_to_iff (λ next. follows width letter piece previous next && ends width letter next rest place) (length letter)).1 (
      m.0,
      m.1.filled.inside,
      both _ _ ((follows_iff piece previous m.0).1 m.1) ((ends_iff rest m.0 place).1 m.2),
    ),
  )

pub matches_iff : (book : Book) (phrase : Phrase) (letter : List ℕ) (place : ℕ)
    → So (matches book phrase letter place) ↔ Matches book phrase letter place
unfolding matches Matches
matches_iff book phrase letter place = ends_iff (width_in book) letter phrase.pieces _ place
