-- The two ends are the two sides of the test.
-- Assumes nothing.
use borrow.Author.Tests.{lt-ltb, le-ltb}
use Rattle.ahead.proofs.turn.state_or_root.Goals as goal

pub returns-then-found-states : goal.returns-then-found-states
returns-then-found-states c = rw (lt-ltb c.args.found c.args.states c.if-found-states.true)

pub returns-else-found-states : goal.returns-else-found-states
returns-else-found-states c = rw (le-ltb c.args.found c.args.states c.if-found-states.false)
