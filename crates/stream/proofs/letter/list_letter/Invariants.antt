-- The part always lies in its buffer, and the first turn decides which ends can be told.
use Rattle.std.proofs.Common.{length, ◌≡◌}
use Rattle.pipes.specs.Letter.{PartInside}
use Rattle.stream.proofs.Ends.{Reached}
use Rattle.stream.proofs.letter.list_letter.Given as goal

abbrev pub invariant-loop : goal.invariant-loop
invariant-loop g l = record { long : length l.part ≡ 4096; inside : PartInside l.turn 4096; reached : Reached l.fn.first l.counter l.turn }
