-- Reports written behind others are the same reports written at once, since each has two numbers.
-- Assumes nothing.
use mathlib.Core.Path.{◌≡◌, refl, ap, ap₂, ◌∙◌}
use mathlib.Core.List.{List, [], ◌∷◌, ◌++◌}
use Prim.Native.Nat.{ℕ, ◌+◌, ◌*◌}
use native.Mathlib.Nat.{add-zero}
use native.Mathlib.Omega.{arith}
use lib.ListN.{length, length-append}
use Rattle.lent.specs.Numbers.{with_bytes}
use Rattle.lent.proofs.Bytes.{with_bytes_split}
use Rattle.meaning.specs.Reports.{Report}
use Rattle.marks.specs.Reported.{Reports}
use Rattle.tracking.specs.Reports.{in_room, with_these}

pub length_in_room : (these : List Report) → length (in_room these) ≡ 2 * length these
unfolding in_room
length_in_room [] = refl
length_in_room (report ∷ rest) = omega (arith, length_in_room rest)

pub in_room_append : (these those : List Report) → in_room (these ++ those) ≡ in_room these ++ in_room those
unfolding in_room
in_room_append [] those = refl
in_room_append (report ∷ rest) those = ap (λ (l : List ℕ). report.number ∷ report.place ∷ l) (in_room_append rest those)

pub these_none : (reports : Reports) → with_these [] reports ≡ reports
unfolding with_these in_room with_bytes
these_none reports = ap (λ (w : ℕ). record { written = w; room = reports.room }) (add-zero reports.written)

pub these_append : (these those : List Report) (reports : Reports) → with_these (these ++ those) reports ≡ with_these those (with_these these reports)
unfolding with_these
these_append these those reports =
    let place : 2 * reports.written + length (in_room these) ≡ 2 * (reports.written + length these) = omega (arith, length_in_room these) in
    ap₂ (λ (w : ℕ) (l : List ℕ). record { written = w; room = l })
    (omega (arith, length-append these those))
    (ap (with_bytes reports.room (2 * reports.written)) (in_room_append these those)
    ∙ with_bytes_split reports.room (2 * reports.written) (in_room these) (in_room those)
    ∙ ap (λ (i : ℕ). with_bytes (with_bytes reports.room (2 * reports.written) (in_room these)) i (in_room those)) place)
