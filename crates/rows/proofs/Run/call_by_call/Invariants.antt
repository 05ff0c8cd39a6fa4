use Rattle.std.proofs.Common.{length}
use Rattle.rows.proofs.Run.call_by_call.Given as goal

abbrev pub decreases-loop-rest : goal.decreases-loop-rest
decreases-loop-rest g l = length l.rest
