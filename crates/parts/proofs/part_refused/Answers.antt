-- Each refusal is what the definition makes of it. Assumes nothing.
use mathlib.Core.Path.{sym, ap}
use mathlib.Core.Logic.{⊎_elim}
use Rattle.parts.specs.Exact.{part_refused}
use Rattle.parts.proofs.part_refused.Goals as goal

pub returns-in-TooLong : goal.returns-in-TooLong
unfolding part_refused
returns-in-TooLong c = ap part_refused (sym c.in-TooLong.is)

pub returns-in-Memory : goal.returns-in-Memory
unfolding part_refused
returns-in-Memory c = ⊎_elim (λ memory. ap part_refused (sym memory.1)) (λ full. ap part_refused (sym full)) c.in-Memory.is
