-- What is found, in a cell or by seeking, says the next state.
-- Assumes nothing.
use native.Mathlib.Omega.{arith}
use Rattle.ahead.proofs.Turns.{cell_found, chosen_quick, chosen_inside}
use Rattle.ahead.proofs.turn.next_of.Goals as goal

pub cell_at-requires : goal.cell_at-requires
cell_at-requires c = omega (arith, c.requires.4.tables, c.requires.4.fits)

pub returns-then-index-dense : goal.returns-then-index-dense
returns-then-index-dense c =
    let a = c.args in
    let is = cell_found a.t.now a.dense a.index a.byte a.column c.requires.4 c.if-index-dense.true a.states _ c.cell_at.ensures.0 in (
      chosen_quick a.t.now a.states a.dense a.index a.byte _ is _ c.state_or_root.ensures,
      chosen_inside a.t.now a.states a.dense a.index a.byte _ is (omega arith) _ c.state_or_root.ensures,
    )

pub returns : goal.returns
returns c =
    let a = c.args in
    let is = c.sought.ensures.0 in (
      chosen_quick a.t.now a.states a.dense a.index a.byte _ is _ c.state_or_root-2.ensures,
      chosen_inside a.t.now a.states a.dense a.index a.byte _ is (omega arith) _ c.state_or_root-2.ensures,
    )
