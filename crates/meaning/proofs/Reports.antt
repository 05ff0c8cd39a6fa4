-- A report is in a letter's list exactly when it is due: the list goes through every place and, at each, through every phrase.
-- Assumes nothing.
use mathlib.Core.Path.{◌≡◌, refl, sym, ap, ◌∙◌}
use mathlib.Core.Logic.{◌↔◌, ⊎_elim}
use mathlib.Core.Bool.{Bool, true, false, So, cond, false≢true}
use mathlib.Core.List.Memᴰ
use mathlib.Core.List.{List, [], ◌∷◌, Memᴰ}
use Prim.Native.Nat.{ℕ, zero, suc, ◌≤◌, ◌<◌}
use native.Mathlib.Nat.{le-suc_iff}
use native.Mathlib.Omega.{arith}
use lib.ListN.{length}
use Rattle.meaning.specs.Books.{Piece, Phrase, Book, width_in}
use Rattle.meaning.specs.Matching.{Ends, Matches, matches}
use Rattle.meaning.specs.Reports.{Report, report_of, Due, choose, reports_at, reports_up_to, reports}
use Rattle.meaning.proofs.Tests.{matches_iff}

-- What is chosen is what is listed and has the test hold of it.
pub choose_iff : {A : Type 0} (test : A → Bool) (l : List A) (x : A) → Memᴰ x (choose test l) ↔ (Memᴰ x l × So (test x))
unfolding choose
choose_iff test [] x = (λ m. absurd (Memᴰ.not-nil m), λ r. absurd (Memᴰ.not-nil r.0))
choose_iff {A} test (y ∷ l) x = go (test y) refl (choose_iff test l x)
  where
    go : (v : Bool) → test y ≡ v → Memᴰ x (choose test l) ↔ (Memᴰ x l × So (test x))
        → Memᴰ x (cond v (y ∷ choose test l) (choose test l)) ↔ (Memᴰ x (y ∷ l) × So (test x))
    go true e ih = (
      λ m. ⊎_elim
          (λ (p : x ≡ y). (Memᴰ.head p, ap test p ∙ e))
          (λ k. (Memᴰ.tail (ih.0 k).0, (ih.0 k).1))
          (Memᴰ.cases_cons m),
      λ r. ⊎_elim Memᴰ.head (λ k. Memᴰ.tail (ih.1 (k, r.1))) (Memᴰ.cases_cons r.0),
    )
    go false e ih = (
      λ m. (Memᴰ.tail (ih.0 m).0, (ih.0 m).1),
      λ r. ⊎_elim
          (λ (p : x ≡ y). absurd (false≢true (sym e ∙ ap test (sym p) ∙ r.1)))
          (λ k. ih.1 (k, r.1))
          (Memᴰ.cases_cons r.0),
    )

-- Pieces that end one after the other, from inside the letter, end inside it.
pub ends_inside : (width : List ℕ → ℕ) (letter : List ℕ) (pieces : List Piece) (previous place : ℕ)
    → previous ≤ length letter → Ends width letter previous pieces place → place ≤ length letter
unfolding Ends
ends_inside width letter [] previous place l h = rw h at l
ends_inside width letter (piece ∷ rest) previous place l h = ends_inside width letter rest h.0 place h.1.filled.inside h.2

module _ (book : Book) (letter : List ℕ) where
  -- A place has the reports of the phrases of the book that match there.
  pub reports_at_iff : (place : ℕ) (report : Report) → Memᴰ report (reports_at book letter place)
      ↔ ((phrase : Phrase) × Memᴰ phrase book.phrases × Matches book phrase letter place × (report ≡ report_of phrase place))
  unfolding reports_at
  reports_at_iff place report = (
    λ m. let r = Memᴰ.of_map (λ p. report_of p place) (choose (λ p. matches book p letter place) book.phrases) m in
        let k = (choose_iff (λ p. matches book p letter place) book.phrases r.0).0 r.1 in
        (r.0, k.0, (matches_iff book r.0 letter place).0 k.1, sym r.2),
    λ r. Memᴰ.cast r.3 (Memᴰ.map (λ p. report_of p place)
        ((choose_iff (λ p. matches book p letter place) book.phrases r.0).1 (r.1, (matches_iff book r.0 letter place).1 r.2))),
  )

  -- The first n places have the reports of each.
  pub reports_up_to_iff : (n : ℕ) (report : Report) → Memᴰ report (reports_up_to book letter n)
      ↔ ((place : ℕ) × (0 < place) × (place ≤ n) × Memᴰ report (reports_at book letter place))
  unfolding reports_up_to
  reports_up_to_iff zero report = (λ m. absurd (Memᴰ.not-nil m), λ r. absurd (omega arith))
  reports_up_to_iff (suc n) report = (
    λ m. ⊎_elim
        (λ k. let r = (reports_up_to_iff n report).0 k in (r.0, r.1, omega arith, r.3))
        (λ k. (suc n, omega arith, omega arith, k))
        (Memᴰ.append_cases (reports_up_to book letter n) m),
    λ r. ⊎_elim
        (λ (l : r.0 ≤ n). Memᴰ.append_left _ ((reports_up_to_iff n report).1 (r.0, r.1, l, r.3)))
        (λ (e : r.0 ≡ suc n). Memᴰ.append_right (reports_up_to book letter n) (rw e at r.3))
        (le-suc_iff.0 r.2),
  )

  -- The letter has the reports that are due.
  pub reports_iff : (report : Report) → Memᴰ report (reports book letter) ↔ Due book letter report
  unfolding reports Matches
  reports_iff report = (
    λ m. let r = (reports_up_to_iff (length letter) report).0 m in
        let k = (reports_at_iff r.0 report).0 r.3 in
        record { phrase = k.0; place = r.0; is = k.3; listed = k.1; read = r.1; matched = k.2 },
    λ d. (reports_up_to_iff (length letter) report).1 (
      d.place,
      d.read,
      ends_inside (width_in book) letter d.phrase.pieces 0 d.place (omega arith) d.matched,
      (reports_at_iff d.place report).1 (d.phrase, d.listed, d.matched, d.is),
    ),
  )
