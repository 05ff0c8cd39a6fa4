-- From one mark to the next no rank is left out, and each report stands behind the one before: so the rest of the marks, written from
-- here, comes to what all of them come to. Assumes nothing.
use mathlib.Core.Path.{◌≡◌, refl, sym, ap, ap₂, ◌∙◌}
use mathlib.Core.Logic.{⊎_elim}
use mathlib.Core.Bool.{Bool, true, false, cond}
use mathlib.Core.List.{List, [], ◌∷◌}
use Prim.Native.Nat.{ℕ, zero, suc, ◌+◌, ◌-◌, ◌*◌, ◌≤◌, ◌<◌}
use native.Mathlib.Nat.{add-zero}
use native.Mathlib.Omega.{arith}
use lib.ListN.{length}
use Rattle.lent.specs.Numbers.{with_bytes}
use Rattle.lent.proofs.Bytes.{length_with_bytes}
use Rattle.lent.proofs.Cases.{lt_or_le}
use Rattle.tables.specs.Reads.{phrase_count_in}
use Rattle.bits.specs.Bits.{First}
use Rattle.marks.specs.Marked.{no_marks, is_marked}
use Rattle.marks.specs.Reported.{those, marked_ranks, entries, Reports, with_reports, reported}
use Rattle.marks.specs.declared.Marks.{Marks}
use Rattle.marks.proofs.Marked.{none_marked}

-- ── The numbers of which a test holds ──

module _ (test : ℕ → Bool) (n : ℕ) where
  pub those_hit : (j : ℕ) → j < n → test j ≡ true → those test j (n - j) ≡ j ∷ those test (j + 1) (n - (j + 1))
  unfolding those
  those_hit j small holds =
      let e : n - j ≡ suc (n - (j + 1)) = omega arith in
      rw (e, holds)

  pub those_pass : (j : ℕ) → test j ≡ false → those test j (n - j) ≡ those test (j + 1) (n - (j + 1))
  unfolding those
  those_pass j fails = ⊎_elim
      (λ (small : j < n). let e : n - j ≡ suc (n - (j + 1)) = omega arith in rw (e, fails))
      (λ (large : n ≤ j). let e : n - j ≡ 0 = omega arith in let f : n - (j + 1) ≡ 0 = omega arith in rw (e, f))
      (lt_or_le j n)

  pub those_end : (j : ℕ) → n ≤ j → those test j (n - j) ≡ []
  unfolding those
  those_end j large = let e : n - j ≡ 0 = omega arith in rw e

  -- Up to the first of them there is none.
  passed_by : (d j : ℕ) → ((k : ℕ) → j ≤ k → k < j + d → test k ≡ false) → those test j (n - j) ≡ those test (j + d) (n - (j + d))
  passed_by zero j none = rw add-zero
  passed_by (suc d) j none =
      let e : j + 1 + d ≡ j + suc d = omega arith in
      those_pass j (none j (omega arith) (omega arith))
      ∙ passed_by d (j + 1) (λ k from below. none k (omega arith) (omega arith))
      ∙ ap (λ (i : ℕ). those test i (n - i)) e

  pub those_first : (most j r : ℕ) → First test most j r → those test j (n - j) ≡ those test r (n - r)
  those_first most j r f =
      let e : j + (r - j) ≡ r = omega (arith, f.reached) in
      passed_by (r - j) j (λ k from below. f.passed k from (omega arith)) ∙ ap (λ (i : ℕ). those test i (n - i)) e

pub those_few : (test : ℕ → Bool) (n j : ℕ) → length (those test j n) ≤ n
unfolding those
those_few test zero j = omega arith
those_few test (suc n) j = go (test j) (those_few test n (j + 1))
  where
    go : (v : Bool) → length (those test (j + 1) n) ≤ n → length (cond v (j ∷ those test (j + 1) n) (those test (j + 1) n)) ≤ suc n
    go true few = omega arith
    go false few = omega arith

pub those_none : (test : ℕ → Bool) → ((k : ℕ) → test k ≡ false) → (n j : ℕ) → those test j n ≡ []
unfolding those
those_none test none zero j = refl
those_none test none (suc n) j = rw (none j) (those_none test none n (j + 1))

-- ── The reports ──

module _ (t : List ℕ) (place : ℕ) where
  pub reports_none : (reports : Reports) → with_reports t place [] reports ≡ reports
  unfolding with_reports entries with_bytes
  reports_none reports = ap (λ (w : ℕ). record { written = w; room = reports.room }) (add-zero reports.written)

  -- One report, and then the others behind it.
  pub reports_more : (j : ℕ) (rest : List ℕ) (written : ℕ) (room : List ℕ)
      → with_reports t place (j ∷ rest) (record { written = written; room = room })
      ≡ with_reports t place rest (record { written = written + 1; room = with_bytes room (2 * written) (entries t place (j ∷ [])) })
  unfolding with_reports entries with_bytes
  reports_more j rest written room =
      let e : written + suc (length rest) ≡ written + 1 + length rest = omega arith in
      let f : 2 * written + 1 + 1 ≡ 2 * (written + 1) = omega arith in
      ap₂ (λ (w i : ℕ). record { written = w; room = with_bytes (with_bytes room (2 * written) (entries t place (j ∷ []))) i (entries t place rest) }) e f

  pub length_room : (ranks : List ℕ) (reports : Reports) → length (with_reports t place ranks reports).room ≡ length reports.room
  unfolding with_reports
  length_room ranks reports = length_with_bytes reports.room (2 * reports.written) (entries t place ranks)

-- A place has at most as many reports as there are phrases, and the room keeps its length.
module _ (t : List ℕ) (place : ℕ) (marks : Marks) (reports : Reports) where
  pub reported_few : (reported t place marks reports).written ≤ reports.written + phrase_count_in t
  unfolding reported with_reports marked_ranks
  reported_few = omega (arith, those_few (is_marked marks) (phrase_count_in t) 0)

  pub reported_long : length (reported t place marks reports).room ≡ length reports.room
  unfolding reported
  reported_long = length_room t place (marked_ranks t marks) reports

-- Where no phrase is marked nothing is written.
pub reported_none : (t : List ℕ) (place : ℕ) (reports : Reports) → reported t place no_marks reports ≡ reports
unfolding reported marked_ranks
reported_none t place reports = rw (those_none (is_marked no_marks) none_marked (phrase_count_in t) 0) (reports_none t place reports)

-- ── Reading them off ──

-- Where the reading stands: at the rank from which the marks are still to be read; what is to be written for them makes up the reports of the place.
pub record Reading (t : List ℕ) (place : ℕ) (marks : Marks) (reports : Reports) (n : ℕ) (room : List ℕ) (count from : ℕ) : Type 0 where
  pub within : from ≤ 128
  pub few : count + (n - from) ≤ reports.written + n
  pub long : length room ≡ length reports.room
  pub rest : with_reports t place (those (is_marked marks) from (n - from)) (record { written = count; room = room }) ≡ reported t place marks reports

module _ {t : List ℕ} {place : ℕ} {marks : Marks} {reports : Reports} {n : ℕ} where
  pub reading_start : n ≡ phrase_count_in t → Reading t place marks reports n reports.room reports.written 0
  unfolding reported marked_ranks
  reading_start e =
      let z : n - 0 ≡ phrase_count_in t = omega arith in
      record {
        within = omega arith;
        few = omega arith;
        long = refl;
        rest = ap (λ (k : ℕ). with_reports t place (those (is_marked marks) 0 k) reports) z;
      }

  module _ {room : List ℕ} {count from : ℕ} (reading : Reading t place marks reports n room count from) where
    pub reading_next : n ≤ 128 → (rank : ℕ) → First (is_marked marks) 128 from rank → rank < n
        → (room' : List ℕ) → room' ≡ with_bytes room (2 * count) (entries t place (rank ∷ []))
        → Reading t place marks reports n room' (count + 1) (rank + 1)
    reading_next small rank f inside room' e = record {
      within = omega (arith, small);
      few = omega (arith, reading.few, f.reached);
      long = ap length e ∙ length_with_bytes room (2 * count) (entries t place (rank ∷ [])) ∙ reading.long;
      rest = sym turned ∙ reading.rest;
    }
      where
        left : List ℕ
        left = those (is_marked marks) (rank + 1) (n - (rank + 1))

        ranks : those (is_marked marks) from (n - from) ≡ rank ∷ left
        ranks = those_first (is_marked marks) n 128 from rank f ∙ those_hit (is_marked marks) n rank inside (f.found (omega arith))

        turned : with_reports t place (those (is_marked marks) from (n - from)) (record { written = count; room = room })
            ≡ with_reports t place left (record { written = count + 1; room = room' })
        turned =
            ap (λ (l : List ℕ). with_reports t place l (record { written = count; room = room })) ranks
            ∙ reports_more t place rank left count room
            ∙ ap (λ (l : List ℕ). with_reports t place left (record { written = count + 1; room = l })) (sym e)

    pub reading_end : (rank : ℕ) → First (is_marked marks) 128 from rank → n ≤ rank → record { written = count; room = room } ≡ reported t place marks reports
    reading_end rank f past =
        sym (ap (λ (l : List ℕ). with_reports t place l (record { written = count; room = room }))
        (those_first (is_marked marks) n 128 from rank f ∙ those_end (is_marked marks) n rank past)
        ∙ reports_none t place (record { written = count; room = room }))
        ∙ reading.rest
