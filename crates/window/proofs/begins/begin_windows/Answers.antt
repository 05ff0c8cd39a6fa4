-- Each turn lets one more piece wait, if it is a first one.
-- Assumes nothing.
use native.Mathlib.Omega.{arith}
use mathlib.Core.Path.{◌≡◌, refl}
use Rattle.running.specs.Layout.{running_size}
use Rattle.window.specs.Begun.{firsts_waiting}
use Rattle.window.proofs.Begun.{firsts_turn, firsts_begun}
use Rattle.window.proofs.begins.begin_windows.Goals as goal

pub loop-piece-init : goal.loop-piece-init
unfolding firsts_waiting
loop-piece-init c = (omega arith, refl, refl)

pub loop-piece-preserved : goal.loop-piece-preserved
loop-piece-preserved c =
    let a = c.args in
    (omega arith, firsts_turn a.t.now c.clear.new.s c.loop-piece.piece c.loop-piece.invariant.1 c.wait_if_first.ensures, omega arith)

pub returns : goal.returns
unfolding running_size
returns c =
    let done : c.loop-piece.piece ≡ c.piece_count-pieces.result = omega arith in
    firsts_begun _ _ c.loop-piece.piece c.clear.ensures (omega arith) c.loop-piece.invariant.1
