-- The walks over the last bytes of the quarters end in the guesses.
-- Assumes nothing.
use mathlib.Core.Path.{◌≡◌, refl}
use Prim.Native.Nat.{◌<◌}
use native.Mathlib.Omega.{arith}
use lib.ListN.{replicate}
use Rattle.tables.specs.Reads.{state_count_in}
use Rattle.ahead.specs.Cursors.{cursor}
use Rattle.ahead.proofs.Turns.{each_quarter}
use Rattle.ahead.proofs.Guesses.{guessed_is}
use Rattle.ahead.proofs.guessed.Goals as goal

pub run_four-warm-requires : goal.run_four-warm-requires
run_four-warm-requires c =
    let ready = c.requires in (
      record {
        few_states = ready.few_states;
        some_dense = ready.some_dense;
        few_dense = ready.few_dense;
        columns = ready.columns;
        within = omega (arith, ready.within, ready.least);
        room = omega (arith, ready.room, ready.least);
      },
      record { each = each_quarter (λ k. cursor (replicate 4 0) k < state_count_in c.args.t.now) (omega (arith, ready.inside)) (omega (arith, ready.inside)) (omega (arith, ready.inside)) (omega (arith, ready.inside)) },
    )

pub returns : goal.returns
returns c =
    let a = c.args in
    let walked = c.run_four-warm in
    guessed_is a.t.now a.part.now a.first a.quarter a.state.0 _ walked.result a.ahead.now _ (each_quarter (λ k. cursor (replicate 4 0) k ≡ 0) refl refl refl refl) c.requires.least walked.ensures _ c.requires.inside c.index.ensures.0 refl refl refl
