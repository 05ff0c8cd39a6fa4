use mathlib.Core.Path.{◌≡◌}
use Prim.Native.Nat.{◌<◌}
use lib.ListN.{drop}
use Rattle.tables.specs.Layout.{mark_from}
use Rattle.survey.proofs.mark.mark_of.Given as goal

abbrev pub invariant-loop-byte : goal.invariant-loop-byte
invariant-loop-byte l = (l.m < 4294967296) × (mark_from l.m (drop l.byte-index l.book) ≡ mark_from 0 l.book)
