use Prim.Native.Nat.{◌-◌}
use mathlib.Core.Path.{◌≡◌}
use lib.ListN.{length}
use Rattle.book.proofs.Reading.{Reading}
use Rattle.book.proofs.judging.judge.Given as goal

abbrev pub invariant-loop-reader : goal.invariant-loop-reader
invariant-loop-reader l = (l.reader.book.now ≡ l.book) × Reading l.book l.reader.at l.reached.stage l.reached.tally

abbrev pub decreases-loop-reader : goal.decreases-loop-reader
decreases-loop-reader l = length l.book - l.reader.at
