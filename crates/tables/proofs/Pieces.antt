-- The pieces with a keyword are told by going through the spots, one number further at each. Assumes nothing.
use mathlib.Core.Path.{◌≡◌, refl, sym, ◌∙◌}
use mathlib.Core.Logic.{◌↔◌, ◌⊎◌, inl, inr, ⊎_elim}
use mathlib.Core.Bool.{Bool, true, false, cond, false≢true}
use mathlib.Core.List.Memᴰ
use mathlib.Core.List.{List, [], ◌∷◌, Memᴰ}
use Prim.Native.Nat.{ℕ, zero, suc, ◌+◌, ◌<◌}
use native.Mathlib.Omega.{arith}
use lib.ListN.{length, get_or}
use Rattle.meaning.specs.Books.{Book}
use Rattle.meaning.specs.Matching.{same}
use Rattle.meaning.specs.Reports.{Sorted}
use Rattle.meaning.proofs.Tests.{same_iff}
use Rattle.tables.specs.Spots.{Spot, spots_of, no_spot, spot_at, spot_count}
use Rattle.tables.specs.Endings.{pieces_with, keyword_of}

-- Piece q is one of the pieces from p on with this keyword.
record Has (keyword : List ℕ) (p : ℕ) (spots : List Spot) (q : ℕ) : Type 0 where
  index : ℕ
  inside : index < length spots
  is : q ≡ p + index
  has : (get_or spots index no_spot).piece.keyword ≡ keyword

with_iff : (keyword : List ℕ) (p : ℕ) (spots : List Spot) (q : ℕ) → Memᴰ q (pieces_with keyword p spots) ↔ Has keyword p spots q
unfolding pieces_with
with_iff keyword p [] q = (λ m. absurd (Memᴰ.not-nil m), λ h. absurd (omega (arith, h.inside)))
with_iff keyword p (spot ∷ rest) q = go (same keyword spot.piece.keyword) refl (with_iff keyword (p + 1) rest q)
  where
    later : Has keyword (p + 1) rest q → Has keyword p (spot ∷ rest) q
    later h = record { index = suc h.index; inside = omega (arith, h.inside); is = omega (arith, h.is); has = h.has }

    here : same keyword spot.piece.keyword ≡ true → q ≡ p → Has keyword p (spot ∷ rest) q
    here e z = record { index = 0; inside = omega arith; is = omega arith; has = sym ((same_iff keyword spot.piece.keyword).0 e) }

    back : (same keyword spot.piece.keyword ≡ false → spot.piece.keyword ≡ keyword → ⊥)
    back e k = false≢true (sym e ∙ (same_iff keyword spot.piece.keyword).1 (sym k))

    cases : (index : ℕ) → index < suc (length rest) → q ≡ p + index → (get_or (spot ∷ rest) index no_spot).piece.keyword ≡ keyword
        → ((q ≡ p) × (spot.piece.keyword ≡ keyword)) ⊎ Has keyword (p + 1) rest q
    cases zero l z k = inl (omega arith, k)
    cases (suc index) l z k = inr (record { index = index; inside = omega arith; is = omega arith; has = k })

    go : (v : Bool) → same keyword spot.piece.keyword ≡ v → Memᴰ q (pieces_with keyword (p + 1) rest) ↔ Has keyword (p + 1) rest q
        → Memᴰ q (cond v (p ∷ pieces_with keyword (p + 1) rest) (pieces_with keyword (p + 1) rest)) ↔ Has keyword p (spot ∷ rest) q
    go true e ih = (
      λ m. ⊎_elim (λ z. here e z) (λ k. later (ih.0 k)) (Memᴰ.cases_cons m),
      λ h. ⊎_elim (λ z. Memᴰ.head z.0) (λ k. Memᴰ.tail (ih.1 k)) (cases h.index h.inside h.is h.has),
    )
    go false e ih = (
      λ m. later (ih.0 m),
      λ h. ⊎_elim (λ z. absurd (back e z.1)) ih.1 (cases h.index h.inside h.is h.has),
    )

-- They stand by their number.
pub with_ascend : (keyword : List ℕ) (p : ℕ) (spots : List Spot) → Sorted ◌<◌ (pieces_with keyword p spots)
unfolding pieces_with Sorted
with_ascend keyword p [] = tt
with_ascend keyword p (spot ∷ rest) = go (same keyword spot.piece.keyword) (with_ascend keyword (p + 1) rest)
  where
    go : (v : Bool) → Sorted ◌<◌ (pieces_with keyword (p + 1) rest) → Sorted ◌<◌ (cond v (p ∷ pieces_with keyword (p + 1) rest) (pieces_with keyword (p + 1) rest))
    go true ih = (λ q m. omega (arith, ((with_iff keyword (p + 1) rest q).0 m).is), ih)
    go false ih = ih

-- Those of the whole book.
pub own_iff : (book : Book) (keyword : List ℕ) (p : ℕ)
    → Memᴰ p (pieces_with keyword 0 (spots_of book)) ↔ ((p < spot_count book) × (keyword_of book p ≡ keyword))
unfolding spot_count spot_at keyword_of
own_iff book keyword p = (
  λ m. let h = (with_iff keyword 0 (spots_of book) p).0 m in
      let z : p ≡ h.index = omega (arith, h.is) in
      rw z (h.inside, h.has),
  λ h. (with_iff keyword 0 (spots_of book) p).1 (record { index = p; inside = h.0; is = omega arith; has = h.1 }),
)
