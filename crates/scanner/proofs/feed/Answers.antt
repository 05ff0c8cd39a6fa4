-- Feed refuses what is refused of its part, and else takes bytes; all that is promised follows from it.
-- Assumes nothing.
use mathlib.Core.Path.{sym, ap, ◌∙◌}
use mathlib.Core.List.{List}
use Prim.Native.Nat.{ℕ}
use Rattle.scanner.specs.Answers.{Fed}
use Rattle.scanner.specs.Passing.{state_held, place_held}
use Rattle.scanner.specs.Exact.{FeedEnd, took_from}
use Rattle.scanner.proofs.Cases.{passed_on}
use Rattle.scanner.proofs.Feeds.{feed_promised}
use Rattle.scanner.proofs.feed.Goals as goal

pub returns-in_err-check_part : goal.returns-in_err-check_part
returns-in_err-check_part c =
    let a = c.args in
    feed_promised a.tables.now a.running.now a.part.now a.room.now _
    (ap {B = FeedEnd} (λ (answer : Fed). record { answer = answer; memory = a.running.now; room = a.room.now }) (passed_on _ _ c.from_residual.ensures.1)
    ∙ sym c.in_err-check_part.ensures.err)

pub of-tables-requires : goal.of-tables-requires
of-tables-requires c = c.in_ok-check_part.ensures.ok.tables

pub take_part-requires : goal.take_part-requires
take_part-requires c = rw c.of-tables.ensures c.in_ok-check_part.ensures.ok.ready

pub returns : goal.returns
returns c =
    let a = c.args in
    feed_promised a.tables.now a.running.now a.part.now a.room.now _
    (c.take_part.ensures ∙ ap (λ (t : List ℕ). took_from t a.running.now a.part.now a.room.now (state_held a.running.now) (place_held a.running.now)) c.of-tables.ensures
    ∙ sym c.in_ok-check_part.ensures.ok.is)
