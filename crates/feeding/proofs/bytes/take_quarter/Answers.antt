-- The states that were looked up are right on the way, so that the step may skim.
-- Assumes nothing.
use borrow.Author.Rules.{rules}
use Rattle.feeding.proofs.Loop.{skim_ready}
use Rattle.feeding.proofs.bytes.take_quarter.Goals as goal

pub take_by-requires : goal.take_by-requires
take_by-requires c = (
  c.requires.on,
  record {
    callable = λ m way ready on. search (rules, skim_ready c.requires ready on);
    glides = λ m way to ready on post. search (rules, skim_ready c.requires ready on, post);
  },
)
