-- No count comes near 64 bits: a place has at most a report for each phrase, and there are no more failure steps than bytes.
-- Assumes nothing.
use mathlib.Core.Path.{◌≡◌, refl, sym, ap, ◌∙◌}
use mathlib.Core.List.{List, [], ◌∷◌, ◌++◌, append_assoc}
use Prim.Native.Nat.{ℕ, zero, suc, ◌*◌, ◌≤◌}
use native.Mathlib.Omega.{arith}
use lib.ListN.{length, length-append}
use Rattle.meaning.specs.Books.{Book}
use Rattle.meaning.specs.Reports.{Report, reports_at, reports_up_to, reports}
use Rattle.meaning.proofs.Taking.{reports_at_few}
use Rattle.format.specs.Limits.{most_phrases, Within}
use Rattle.listing.specs.Lines.{hit_line}
use Rattle.listing.specs.Listing.{rights_of, hit_lines}

up_to_few : (book : Book) → Within book → (letter : List ℕ) (n : ℕ) → length (reports_up_to book letter n) ≤ most_phrases * n
unfolding reports_up_to
up_to_few book within letter zero = omega arith
up_to_few book within letter (suc n) =
    omega (
      arith,
      length-append (reports_up_to book letter n) (reports_at book letter (suc n)),
      up_to_few book within letter n,
      reports_at_few book letter (suc n),
      within.counts.count,
    )

pub reports_few : (book : Book) → Within book → (letter : List ℕ) → length (reports book letter) ≤ most_phrases * length letter
unfolding reports
reports_few book within letter = up_to_few book within letter (length letter)

-- The lines of reports one after the other.
pub lines_append : (book : Book) (these those : List Report) → hit_lines book (these ++ those) ≡ hit_lines book these ++ hit_lines book those
unfolding hit_lines
lines_append book [] those = refl
lines_append book (report ∷ these) those =
    let line : List ℕ = hit_line report.place report.number (rights_of book.phrases report.number) in
    ap (λ (l : List ℕ). line ++ l) (lines_append book these those) ∙ sym (append_assoc line (hit_lines book these) (hit_lines book those))
