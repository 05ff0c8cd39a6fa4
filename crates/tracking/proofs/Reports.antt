-- The reports that are written at a place are those of the definition: the marks are read off by rank, and a rank has its phrase's number.
-- Assumes nothing.
use mathlib.Core.Path.{◌≡◌, refl, ap, ap₂, ◌∙◌}
use mathlib.Core.Bool.{Bool, true, false, cond}
use mathlib.Core.List.{List, [], ◌∷◌}
use Prim.Native.Nat.{ℕ, suc, ◌+◌, ◌*◌, ◌<◌}
use native.Mathlib.Numerals.{add-one}
use native.Mathlib.Omega.{arith}
use lib.ListN.{length, get_or}
use Rattle.lent.specs.Numbers.{with_bytes}
use Rattle.meaning.specs.Books.{Phrase, Book}
use Rattle.meaning.specs.Matching.{matches}
use Rattle.meaning.specs.Reports.{Report, report_of, reports_at}
use Rattle.format.specs.Limits.{Within}
use Rattle.tables.specs.Regions.{Laid}
use Rattle.tables.specs.Spots.{no_phrase}
use Rattle.tables.specs.Layout.{tables_layout, number_of_rank}
use Rattle.tables.specs.Reads.{phrase_number_in}
use Rattle.tables.proofs.Fields.{phrase_count_laid, phrase_number_laid}
use Rattle.running.specs.Kept.{read_off}
use Rattle.running.proofs.Marks.{read_reports}
use Rattle.marks.specs.Marked.{is_marked}
use Rattle.marks.specs.Reported.{those, marked_ranks, entries, Reports, with_reports, reported}
use Rattle.marks.specs.declared.Marks.{Marks}
use Rattle.tracking.specs.Reports.{in_room, with_these}

-- What the ranks of the marked phrases come to in the room, and how many they are.
ranks_read : (t : List ℕ) (mark : ℕ → Bool) (place : ℕ) (phrases : List Phrase) (j : ℕ)
    → ((k : ℕ) → k < length phrases → phrase_number_in t (j + k) ≡ (get_or phrases k no_phrase).number)
    → (entries t place (those mark j (length phrases)) ≡ in_room (read_off mark place j phrases)) × (length (those mark j (length phrases)) ≡ length (read_off mark place j phrases))
unfolding those entries in_room read_off
ranks_read t mark place [] j numbers = (refl, refl)
ranks_read t mark place (phrase ∷ rest) j numbers =
    rw add-one (go (mark j) (ranks_read t mark place rest (suc j) (λ k l. let e : j + suc k ≡ suc j + k = omega arith in rw e at (numbers (suc k) (omega arith)))))
  where
    number : phrase_number_in t j ≡ phrase.number
    number = let e : j + 0 ≡ j = omega arith in rw e at (numbers 0 (omega arith))

    ranks : List ℕ
    ranks = those mark (suc j) (length rest)

    read : List Report
    read = read_off mark place (suc j) rest

    go : (v : Bool) → (entries t place ranks ≡ in_room read) × (length ranks ≡ length read)
        → (entries t place (cond v (j ∷ ranks) ranks) ≡ in_room (cond v (report_of phrase place ∷ read) read))
        × (length (cond v (j ∷ ranks) ranks) ≡ length (cond v (report_of phrase place ∷ read) read))
    go true ih = (ap₂ (λ (n : ℕ) (l : List ℕ). n ∷ place ∷ l) number ih.0, ap suc ih.1)
    go false ih = ih

-- Marks that say which phrases match at a place are reported as the definition's reports of the place.
pub reported_reports : (book : Book) → Within book → (t : List ℕ) → Laid (tables_layout book) t → (letter : List ℕ) (place : ℕ) (marks : Marks)
    → ((j : ℕ) → j < length book.phrases → is_marked marks j ≡ matches book (get_or book.phrases j no_phrase) letter place)
    → (reports : Reports) → reported t place marks reports ≡ with_these (reports_at book letter place) reports
unfolding reported with_reports marked_ranks with_these number_of_rank
reported_reports book limits t laid letter place marks right reports =
    let read = ranks_read t (is_marked marks) place book.phrases 0
    (λ k l. let e : 0 + k ≡ k = omega arith in rw e (phrase_number_laid book limits t laid k l)) in
    let due : read_off (is_marked marks) place 0 book.phrases ≡ reports_at book letter place = read_reports book letter place (is_marked marks) right in
    rw (phrase_count_laid book limits t laid)
    (ap₂ (λ (n : ℕ) (l : List ℕ). record { written = reports.written + n; room = with_bytes reports.room (2 * reports.written) l })
    (read.1 ∙ ap length due) (read.0 ∙ ap in_room due))
