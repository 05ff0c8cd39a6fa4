use Prim.Native.Nat.{◌-◌}
use Rattle.meaning.specs.Matching.{bytes_after}
use Rattle.records.proofs.Shared.{Sharing}
use Rattle.records.proofs.prefixes.most_shared.Given as goal

abbrev pub invariant-loop-at : goal.invariant-loop-at
invariant-loop-at l = Sharing l.book l.end (bytes_after l.start l.count l.book) l.at l.most

abbrev pub decreases-loop-at : goal.decreases-loop-at
decreases-loop-at l = l.end - l.at
