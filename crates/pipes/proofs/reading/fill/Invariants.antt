-- Each turn reads a byte or more, into the part of the buffer that is left, which keeps its length. The measure is how many bytes are left.
use Rattle.std.proofs.Common.{length, ◌-◌, ◌≡◌, ◌≤◌}
use Rattle.pipes.proofs.reading.fill.Given as goal

abbrev pub invariant-loop-have : goal.invariant-loop-have
invariant-loop-have g l = record { inside : l.have ≤ length l.buffer; same_length : length l.buffer ≡ length l.fn.buffer }

abbrev pub decreases-loop-have : goal.decreases-loop-have
decreases-loop-have g l = length l.buffer - l.have
