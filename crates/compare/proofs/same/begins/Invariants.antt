use Rattle.std.proofs.Common.{◌-◌, length}
use Rattle.compare.proofs.same.begins.Given as goal

abbrev pub decreases-loop-i : goal.decreases-loop-i
decreases-loop-i l = length l.with - l.i
