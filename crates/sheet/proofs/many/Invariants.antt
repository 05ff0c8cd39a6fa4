use mathlib.Core.Path.{◌≡◌}
use Prim.Native.Nat.{◌≤◌, ◌-◌}
use lib.ListN.{length}
use Rattle.sheet.specs.Sheets.{Sheet, with_many}
use Rattle.sheet.proofs.many.Given as goal

abbrev pub invariant-loop-n : goal.invariant-loop-n
invariant-loop-n l =
    (l.n ≤ l.count) × (◌≡◌ {A = Sheet} (record { bytes = l.book; next = l.end }) (with_many (record { bytes = l.initial.book; next = l.at }) l.n l.value)) × (length l.book ≡ length l.initial.book)

abbrev pub decreases-loop-n : goal.decreases-loop-n
decreases-loop-n l = l.count - l.n
