-- The reports of a place stand by phrase number, one for each marked phrase: the ranks are read off from the lowest to the highest, and
-- the phrase numbers ascend with the rank. Assumes nothing.
use mathlib.Core.Path.{◌≡◌, refl, sym, ap, ap₂, ◌∙◌}
use mathlib.Core.Logic.{◌↔◌, ◌⊎◌, inl, inr, ⊎_elim}
use mathlib.Core.Bool.{Bool, true, false, cond, false≢true}
use mathlib.Core.List.Memᴰ
use mathlib.Core.List.{List, [], ◌∷◌, ◌++◌, map, Memᴰ}
use Prim.Native.Nat.{ℕ, zero, suc, ◌+◌, ◌-◌, ◌*◌, ◌≤◌, ◌<◌}
use native.Mathlib.Omega.{arith}
use lib.ListN.{length, get_or}
use Rattle.lent.specs.Numbers.{with_bytes}
use Rattle.lent.proofs.Bytes.{length_with_bytes, byte_apart, byte_written}
use Rattle.lent.proofs.Cases.{eq_or_ne}
use Rattle.meaning.specs.Books.{Phrase, Book}
use Rattle.meaning.specs.Reports.{Report, Before, Sorted, Ascending}
use Rattle.meaning.proofs.Order.{before_not_after}
use Rattle.meaning.proofs.Sorted.{sorted_once, sorted_only}
use Rattle.format.specs.Limits.{Within}
use Rattle.format.proofs.Accepted.{within_ascends}
use Rattle.numbering.proofs.Lists.{sorted_at}
use Rattle.tables.specs.Regions.{Laid}
use Rattle.tables.specs.Spots.{no_phrase}
use Rattle.tables.specs.Layout.{tables_layout, number_of_rank}
use Rattle.tables.specs.Reads.{phrase_count_in, phrase_number_in}
use Rattle.tables.proofs.Fields.{phrase_count_laid, phrase_number_laid}
use Rattle.marks.specs.Marked.{is_marked}
use Rattle.marks.specs.Ordered.{reports_in, reports_put, rank_report, OfMarked, NumbersAscend}
use Rattle.marks.specs.Reported.{those, marked_ranks, entries, Reports, with_reports, reported}
use Rattle.marks.specs.declared.Marks.{Marks}
use Rattle.marks.proofs.Reported.{those_few, reports_more}

-- ── The ranks that are read off ──

module _ (x : ℕ) (rest : List ℕ) where
  -- A number stands before others where a test holds of it.
  in_front : (v : Bool) (y : ℕ) → Memᴰ y (cond v (x ∷ rest) rest) ↔ (((v ≡ true) × (y ≡ x)) ⊎ Memᴰ y rest)
  in_front true y = (λ m. ⊎_elim (λ e. inl (refl, e)) inr (Memᴰ.cases_cons m), ⊎_elim (λ h. Memᴰ.head h.1) Memᴰ.tail)
  in_front false y = (inr, ⊎_elim (λ h. absurd (false≢true h.0)) (λ m. m))

  ascend_front : (v : Bool) → ((y : ℕ) → Memᴰ y rest → x < y) → Sorted ◌<◌ rest → Sorted ◌<◌ (cond v (x ∷ rest) rest)
  unfolding Sorted
  ascend_front true lower ascend = (lower, ascend)
  ascend_front false lower ascend = ascend

-- They are all those among the n numbers from j on of which the test holds.
pub those_iff : (test : ℕ → Bool) (n j y : ℕ) → Memᴰ y (those test j n) ↔ ((j ≤ y) × (y < j + n) × (test y ≡ true))
unfolding those
those_iff test zero j y = (λ m. absurd (Memᴰ.not-nil m), λ h. absurd (omega (arith, h.0, h.1)))
those_iff test (suc n) j y =
    go _ _ (those_iff test n _ y) (λ e. (omega arith, omega arith)) (λ from below. (omega arith, omega arith)) (λ from below other. (omega arith, omega arith))
  where
    go : (x i : ℕ) {rest : List ℕ} → Memᴰ y rest ↔ ((i ≤ y) × (y < i + n) × (test y ≡ true))
        → (y ≡ x → (j ≤ y) × (y < j + suc n)) → (i ≤ y → y < i + n → (j ≤ y) × (y < j + suc n))
        → (j ≤ y → y < j + suc n → (y ≡ x → ⊥) → (i ≤ y) × (y < i + n))
        → Memᴰ y (cond (test x) (x ∷ rest) rest) ↔ ((j ≤ y) × (y < j + suc n) × (test y ≡ true))
    go x i {rest} ih first later either = (
      λ m. ⊎_elim
          (λ h. let r = first h.1 in (r.0, r.1, ap test h.1 ∙ h.0))
          (λ k. let h = ih.0 k in let r = later h.0 h.1 in (r.0, r.1, h.2))
          ((in_front x rest (test x) y).0 m),
      λ h. (in_front x rest (test x) y).1 (⊎_elim
          (λ (e : y ≡ x). inl (ap test (sym e) ∙ h.2, e))
          (λ other. let r = either h.0 h.1 other in inr (ih.1 (r.0, r.1, h.2)))
          (eq_or_ne y x)),
    )

-- They ascend: the number that stands first is below all that are left.
pub those_ascend : (test : ℕ → Bool) (n j : ℕ) → Sorted ◌<◌ (those test j n)
unfolding those Sorted
those_ascend test zero j = tt
those_ascend test (suc n) j = go _ _ (λ y from below. omega arith) (those_ascend test n _)
  where
    go : (x i : ℕ) → ((y : ℕ) → i ≤ y → y < i + n → x < y) → Sorted ◌<◌ (those test i n) → Sorted ◌<◌ (cond (test x) (x ∷ those test i n) (those test i n))
    go x i lower ascend = ascend_front x (those test i n) (test x) (λ y m. let r = (those_iff test n i y).0 m in lower y r.0 r.1) ascend

module _ (t : List ℕ) (marks : Marks) where
  pub ranks_ascend : Sorted ◌<◌ (marked_ranks t marks)
  unfolding marked_ranks
  ranks_ascend = those_ascend (is_marked marks) (phrase_count_in t) 0

  pub ranks_iff : (j : ℕ) → Memᴰ j (marked_ranks t marks) ↔ ((j < phrase_count_in t) × (is_marked marks j ≡ true))
  unfolding marked_ranks
  ranks_iff j =
      let r = those_iff (is_marked marks) (phrase_count_in t) 0 j in
      (λ m. let h = r.0 m in (omega (arith, h.1), h.2), λ h. r.1 (omega arith, omega (arith, h.0), h.1))

-- ── The phrase numbers ──

-- Those of a book within the limits ascend, and so do those of its tables.
pub numbers_laid : (book : Book) → Within book → (t : List ℕ) → Laid (tables_layout book) t → NumbersAscend t
unfolding Ascending number_of_rank
numbers_laid book within t laid i j less inside =
    let few : j < length book.phrases = rw (phrase_count_laid book within t laid) at inside in
    rw (phrase_number_laid book within t laid i (omega arith), phrase_number_laid book within t laid j few)
    (sorted_at (λ (p q : Phrase). p.number < q.number) no_phrase book.phrases (within_ascends book within) i j less few)

module _ (t : List ℕ) (place : ℕ) where
  -- Reports of ascending ranks stand in order.
  ranks_sorted : NumbersAscend t → (ranks : List ℕ) → Sorted ◌<◌ ranks → ((j : ℕ) → Memᴰ j ranks → j < phrase_count_in t)
      → Sorted Before (map (rank_report t place) ranks)
  unfolding Sorted Before
  ranks_sorted numbers [] ascend inside = tt
  ranks_sorted numbers (i ∷ rest) ascend inside = (
    λ report m. let r = Memᴰ.of_map (rank_report t place) rest m in
        rw (← r.2) (inr (refl, numbers i r.0 (ascend.0 r.0 r.1) (inside r.0 (Memᴰ.tail r.1)))),
    ranks_sorted numbers rest ascend.1 (λ j m. inside j (Memᴰ.tail m)),
  )

  -- A report that others stand behind.
  report_back : (j : ℕ) (later : List ℕ) (written : ℕ) (room : List ℕ) → 2 * written + 2 ≤ length room
      → let now : List ℕ = with_bytes (with_bytes room (2 * written) (entries t place (j ∷ []))) (2 * (written + 1)) later in
      (get_or now (2 * written) 0 ≡ phrase_number_in t j) × (get_or now (2 * written + 1) 0 ≡ place)
  unfolding entries
  report_back j later written room enough =
      let first : 2 * written + 0 ≡ 2 * written = omega arith in
      let put : List ℕ = with_bytes room (2 * written) (entries t place (j ∷ [])) in (
        byte_apart put (2 * (written + 1)) later (2 * written) (inl (omega arith))
            ∙ ap (λ (i : ℕ). get_or put i 0) (sym first) ∙ byte_written room (2 * written) (entries t place (j ∷ [])) 0 enough (omega arith),
        byte_apart put (2 * (written + 1)) later (2 * written + 1) (inl (omega arith))
            ∙ byte_written room (2 * written) (entries t place (j ∷ [])) 1 enough (omega arith),
      )

  -- The reports of some ranks are read back from the room.
  read_back : (ranks : List ℕ) (written : ℕ) (room : List ℕ) → 2 * (written + length ranks) ≤ length room
      → reports_in (with_reports t place ranks (record { written = written; room = room })).room written (length ranks) ≡ map (rank_report t place) ranks
  unfolding reports_in with_reports
  read_back [] written room enough = refl
  read_back (j ∷ rest) written room enough =
      let put : List ℕ = with_bytes room (2 * written) (entries t place (j ∷ [])) in
      let long : length put ≡ length room = length_with_bytes room (2 * written) (entries t place (j ∷ [])) in
      let back = report_back j (entries t place rest) written room (omega arith) in
      ap (λ (r : Reports). reports_in r.room written (suc (length rest))) (reports_more t place j rest written room)
      ∙ ap₂ (λ (r : Report) (l : List Report). r ∷ l)
      (ap₂ (λ (n p : ℕ). record { number = n; place = p }) back.0 back.1)
      (read_back rest (written + 1) put (omega arith))

-- ── The reports of a place ──

module _ (t : List ℕ) (place : ℕ) (marks : Marks) (reports : Reports) (enough : 2 * (reports.written + phrase_count_in t) ≤ length reports.room) where
  abbrev put : List Report
  put = reports_put t place marks reports

  -- They are those of the ranks that were read off.
  put_is : put ≡ map (rank_report t place) (marked_ranks t marks)
  unfolding reports_put reported with_reports marked_ranks
  put_is =
      let ranks : List ℕ = marked_ranks t marks in
      let few : length ranks ≤ phrase_count_in t = those_few (is_marked marks) (phrase_count_in t) 0 in
      let all : reports.written + length ranks - reports.written ≡ length ranks = omega arith in
      ap (reports_in (with_reports t place ranks reports).room reports.written) all ∙ read_back t place ranks reports.written reports.room (omega arith)

  -- Those of the marked phrases.
  pub put_iff : (report : Report) → Memᴰ report put ↔ OfMarked t place marks report
  put_iff report = rw put_is (
    λ m. let r = Memᴰ.of_map (rank_report t place) (marked_ranks t marks) m in
        let h = (ranks_iff t marks r.0).0 r.1 in
        record { rank = r.0; inside = h.0; marked = h.1; is = sym r.2 },
    λ h. Memᴰ.cast h.is (Memᴰ.map (rank_report t place) ((ranks_iff t marks h.rank).1 (h.inside, h.marked))),
  )

  module _ (numbers : NumbersAscend t) where
    -- By phrase number.
    pub put_sorted : Sorted Before put
    put_sorted = rw put_is (ranks_sorted t place numbers (marked_ranks t marks) (ranks_ascend t marks) (λ j m. ((ranks_iff t marks j).0 m).0))

    -- Once: no report stands there again after itself.
    pub put_once : (front : List Report) (report : Report) (back : List Report) → front ++ report ∷ back ≡ put → Memᴰ report back → ⊥
    put_once front report back e m = sorted_once Before (λ r b. before_not_after r r b b) front report back (rw e put_sorted) m

    -- No other list has these reports in this order.
    pub put_only : (others : List Report) → Sorted Before others → ((report : Report) → Memᴰ report others ↔ OfMarked t place marks report) → others ≡ put
    put_only others s same = sorted_only Before before_not_after others put s put_sorted
        (λ r. (λ m. (put_iff r).1 ((same r).0 m), λ m. (same r).1 ((put_iff r).0 m)))

-- So it is with the tables of every book within the limits.
pub put_in_order : (book : Book) → Within book → (t : List ℕ) → Laid (tables_layout book) t → (place : ℕ) (marks : Marks) (reports : Reports)
    → 2 * (reports.written + phrase_count_in t) ≤ length reports.room → Sorted Before (reports_put t place marks reports)
put_in_order book within t laid place marks reports enough = put_sorted t place marks reports enough (numbers_laid book within t laid)
