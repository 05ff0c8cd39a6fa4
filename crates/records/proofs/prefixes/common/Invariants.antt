use mathlib.Core.Path.{◌≡◌}
use Prim.Native.Nat.{◌+◌}
use lib.ListN.{length}
use Rattle.std.specs.Iterator.Adapters.{zip_first, zip_second}
use Rattle.std.specs.Slice.Iter.{iter_rest}
use Rattle.format.specs.Prefixes.{common_prefix}
use Rattle.records.proofs.prefixes.common.Given as goal

abbrev pub invariant-loop-byte : goal.invariant-loop-byte
invariant-loop-byte l =
    (l.shared ≡ length l.yielded) ×
    (common_prefix l.keyword l.other ≡ l.shared + common_prefix (iter_rest (zip_first l.byte-iterator)) (iter_rest (zip_second l.byte-iterator)))
