-- After a build that was refused otherwise than with 1 the tables are zero up to their size, so their tag is not there: begin and feed answer 12
-- and change nothing.
-- Assumes nothing.
use mathlib.Core.Path.{refl}
use mathlib.Core.Logic.{inl, inr}
use mathlib.Core.List.{List}
use Prim.Native.Nat.{ℕ, ◌≤◌}
use lib.ListN.{length}
use Rattle.lent.specs.Zeros.{Zero}
use Rattle.tables.specs.Layout.{tables_size}
use Rattle.tables.proofs.Passing as tables
use Rattle.running.specs.Layout.{running_size}
use Rattle.scanner.specs.Exact.{begin_of, feed_of}
use Rattle.scanner.specs.Meant.{FeedRefused}
use Rattle.scanner.specs.Promised.{BeginRefused}
use Rattle.scanner.proofs.Passing.{zero_fails}
use Rattle.scanner.proofs.Begins.{begin_promised}
use Rattle.scanner.proofs.Feeds.{feed_promised}

module _ (t m : List ℕ) (long : tables_size ≤ length t) (also : running_size ≤ length m) where
  module _ (zeros : Zero 0 tables_size t) where
    pub begin_zeroed : BeginRefused 12 m (begin_of t m)
    begin_zeroed = (begin_promised t m (begin_of t m) refl).not_tables long also (tables.zero_fails t zeros)

    pub feed_zeroed : (part room : List ℕ) → FeedRefused 12 m room (feed_of t m part room)
    feed_zeroed part room = (feed_promised t m part room (feed_of t m part room) refl).not_tables long also (inl (tables.zero_fails t zeros))

  -- So does feed with running memory that is zero, whatever the tables are.
  pub feed_not_begun : Zero 0 running_size m → (part room : List ℕ) → FeedRefused 12 m room (feed_of t m part room)
  feed_not_begun zeros part room = (feed_promised t m part room (feed_of t m part room) refl).not_tables long also (inr (zero_fails t m zeros))
