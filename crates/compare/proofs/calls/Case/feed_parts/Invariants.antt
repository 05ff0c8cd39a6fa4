use Rattle.std.proofs.Common.{◌-◌}
use Rattle.compare.proofs.calls.Case.feed_parts.Given as goal

abbrev pub decreases-loop-at : goal.decreases-loop-at
decreases-loop-at g l = l.length - l.at
