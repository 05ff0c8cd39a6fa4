-- The reports stand by place, then by phrase number: places are gone through in order, and at each the book's phrases are.
-- Assumes nothing.
use mathlib.Core.Path.{◌≡◌, refl, ap}
use mathlib.Core.Logic.{◌↔◌, inl, inr, ⊎_elim}
use mathlib.Core.Bool.{Bool, true, false, cond}
use mathlib.Core.List.Memᴰ
use mathlib.Core.List.{List, [], ◌∷◌, ◌++◌, map, Memᴰ}
use Prim.Native.Nat.{ℕ, zero, suc, ◌≤◌, ◌<◌}
use native.Mathlib.Omega.{arith}
use lib.ListN.{length}
use Rattle.meaning.specs.Books.{Phrase, Book}
use Rattle.meaning.specs.Matching.{matches}
use Rattle.meaning.specs.Reports.{Report, report_of, Due, choose, reports_at, reports_up_to, reports, Before, Sorted, Ascending}
use Rattle.meaning.proofs.Reports.{choose_iff, reports_at_iff, reports_up_to_iff, reports_iff}
use Rattle.meaning.proofs.Sorted.{sorted_append, sorted_once, sorted_only}

-- No two reports come before each other.
pub before_not_after : (r s : Report) → Before r s → Before s r → ⊥
unfolding Before
before_not_after r s p q = ⊎_elim
    (λ (a : r.place < s.place). ⊎_elim (λ (b : s.place < r.place). omega arith) (λ b. omega (arith, b.0)) q)
    (λ a. ⊎_elim (λ (b : s.place < r.place). omega (arith, a.0)) (λ b. omega (arith, a.1, b.1)) q)
    p

-- The phrases that are chosen of a book in order, reported at one place, are in order.
chosen_sorted : (test : Phrase → Bool) (place : ℕ) (phrases : List Phrase) → Ascending phrases
    → Sorted Before (map (λ p. report_of p place) (choose test phrases))
unfolding Sorted Before Ascending choose
chosen_sorted test place [] s = tt
chosen_sorted test place (p ∷ rest) s = go (test p) (chosen_sorted test place rest s.1)
  where
    later : (r : Report) → Memᴰ r (map (λ q. report_of q place) (choose test rest)) → Before (report_of p place) r
    later r m =
        let k = Memᴰ.of_map (λ q. report_of q place) (choose test rest) m in
        rw (← k.2) (inr (refl, s.0 k.0 ((choose_iff test rest k.0).0 k.1).0))

    go : (v : Bool) → Sorted Before (map (λ q. report_of q place) (choose test rest))
        → Sorted Before (map (λ q. report_of q place) (cond v (p ∷ choose test rest) (choose test rest)))
    go true ih = (later, ih)
    go false ih = ih

module _ (book : Book) (letter : List ℕ) where
  -- A report stands in the list of its own place.
  place_of : (place : ℕ) (report : Report) → Memᴰ report (reports_at book letter place) → report.place ≡ place
  place_of place report m = ap (λ (r : Report). r.place) ((reports_at_iff book letter place report).0 m).3

  place_up_to : (n : ℕ) (report : Report) → Memᴰ report (reports_up_to book letter n) → report.place ≤ n
  place_up_to n report m =
      let r = (reports_up_to_iff book letter n report).0 m in
      omega (arith, place_of r.0 report r.3)

  module _ (ascending : Ascending book.phrases) where
    -- By place, then by phrase number.
    pub reports_sorted : Sorted Before (reports book letter)
    unfolding Sorted Before reports reports_up_to reports_at
    reports_sorted = go (length letter)
      where
        go : (n : ℕ) → Sorted Before (reports_up_to book letter n)
        go zero = tt
        go (suc n) = sorted_append Before (reports_up_to book letter n) (reports_at book letter (suc n)) (go n)
            (chosen_sorted (λ q. matches book q letter (suc n)) (suc n) book.phrases ascending)
            (λ x y m k. inl (omega (arith, place_up_to n x m, place_of (suc n) y k)))

    -- Once for each pair: no report stands in the list again after itself.
    pub reports_once : (front : List Report) (report : Report) (back : List Report)
        → front ++ report ∷ back ≡ reports book letter → Memᴰ report back → ⊥
    reports_once front report back e m = sorted_once Before (λ r b. before_not_after r r b b) front report back (rw e reports_sorted) m

    -- No other list has what is due and nothing else, in this order.
    pub reports_only : (others : List Report) → Sorted Before others
        → ((report : Report) → Memᴰ report others ↔ Due book letter report) → others ≡ reports book letter
    reports_only others s same = sorted_only Before before_not_after others (reports book letter) s reports_sorted
        (λ r. (λ m. (reports_iff book letter r).1 ((same r).0 m), λ m. (same r).1 ((reports_iff book letter r).0 m)))
