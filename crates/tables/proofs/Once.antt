-- A layout without gaps leaves no byte open: each byte belongs to a number of some entry, and a number determines its bytes.
-- Assumes nothing.
use mathlib.Core.Path.{◌≡◌, refl, sym, ◌∙◌}
use mathlib.Core.Logic.{⊎_elim}
use mathlib.Core.Bool.{true, So, and-eq-true_iff}
use mathlib.Core.List.{List, [], ◌∷◌}
use Prim.Native.Nat.{ℕ, zero, suc, ◌+◌, ◌*◌, ◌≤◌, ◌<◌}
use native.Mathlib.Nat.{mul-suc}
use native.Mathlib.Omega.{arith}
use lib.ListN.{get_or}
use borrow.Author.Tests.{eqb-true}
use Rattle.lent.specs.Numbers.{Bytes, number_at}
use Rattle.lent.proofs.Cases.{lt_or_le}
use Rattle.meaning.specs.Books.{Book}
use Rattle.tables.specs.Regions.{Part, Region, entry_length, HoldsParts, HoldsRegion, Laid, tiled}
use Rattle.tables.specs.Layout.{tables_size, tables_layout}

module _ (s t : List ℕ) where
  -- The same bytes stand from one place up to another.
  abbrev pub Agree : ℕ → ℕ → Type 0
  Agree from to = (k : ℕ) → from ≤ k → k < to → get_or s k 0 ≡ get_or t k 0

  agree_both : (from seam to : ℕ) → Agree from seam → Agree seam to → Agree from to
  agree_both from seam to p q k a b = ⊎_elim (λ l. p k a l) (λ l. q k l b) (lt_or_le k seam)

  module _ (bytes : Bytes s) (also : Bytes t) where
    -- Equal numbers have equal bytes: the lowest is the remainder by 256.
    pub number_bytes : (n i : ℕ) → number_at n s i ≡ number_at n t i → Agree i (i + n)
    unfolding number_at
    number_bytes zero i e k a b = absurd (omega arith)
    number_bytes (suc n) i e k a b = ⊎_elim
        (λ (l : k < i + 1). let z : k ≡ i = omega arith in rw z (omega (arith, bytes i, also i)))
        (λ l. number_bytes n (i + 1) (omega (arith, bytes i, also i)) k l (omega arith))
        (lt_or_le k (i + 1))

    parts_once : (parts : List Part) (j at : ℕ) → HoldsParts s parts j at → HoldsParts t parts j at → Agree at (at + entry_length parts)
    unfolding HoldsParts entry_length
    parts_once [] j at p q k a b = absurd (omega arith)
    parts_once (part ∷ rest) j at p q k a b =
        agree_both at (at + part.width) (at + part.width + entry_length rest)
        (number_bytes part.width at (p.0 ∙ sym q.0))
        (parts_once rest j (at + part.width) p.1 q.1)
        k a (omega arith)

    entries_once : (parts : List Part) (at n : ℕ)
        → ((j : ℕ) → j < n → HoldsParts s parts j (at + entry_length parts * j))
        → ((j : ℕ) → j < n → HoldsParts t parts j (at + entry_length parts * j))
        → Agree at (at + entry_length parts * n)
    entries_once parts at zero p q k a b = absurd (omega arith)
    entries_once parts at (suc n) p q k a b =
        let more : entry_length parts * suc n ≡ entry_length parts * n + entry_length parts = mul-suc (entry_length parts) n in
        agree_both at (at + entry_length parts * n) (at + entry_length parts * n + entry_length parts)
        (entries_once parts at n (λ j l. p j (omega arith)) (λ j l. q j (omega arith)))
        (parts_once parts n (at + entry_length parts * n) (p n (omega arith)) (q n (omega arith)))
        k a (omega arith)

    regions_once : (regions : List Region) (from end : ℕ) → So (tiled regions from end) → Laid regions s → Laid regions t → Agree from end
    unfolding tiled Laid HoldsRegion
    regions_once [] from end h p q = λ k a b. absurd (omega (arith, eqb-true from end h))
    regions_once (region ∷ rest) from end h p q =
        let both = (and-eq-true_iff _ _).0 h in
        let begins : region.offset ≡ from = eqb-true region.offset from both.0 in
        agree_both from (from + entry_length region.parts * region.entries) end
        (entries_once region.parts from region.entries (rw begins at p.0) (rw begins at q.0))
        (regions_once rest (from + entry_length region.parts * region.entries) end both.1 p.1 q.1)

    -- Two memories of bytes that are laid out by the same regions, which follow each other from 0 to the size, agree in every byte below it.
    pub laid_once : (regions : List Region) (size : ℕ) → So (tiled regions 0 size) → Laid regions s → Laid regions t → Agree 0 size
    laid_once regions size h p q = regions_once regions 0 size h p q

-- The regions of the table memory leave no byte out.
pub tables_tiled : (book : Book) → tiled (tables_layout book) 0 tables_size ≡ true
unfolding tiled tables_layout tables_size
tables_tiled book = refl
