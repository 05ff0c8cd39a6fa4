-- Where all four are dense the cells are what is found, and what is found says the next state.
-- Assumes nothing.
use mathlib.Core.Path.{◌≡◌}
use mathlib.Core.Bool.{cond}
use Prim.Native.Nat.{◌<◌}
use borrow.Author.Rules.{rules}
use native.Mathlib.Omega.{arith}
use lib.Dec.{ltb}
use lib.ListN.{get_or}
use Rattle.ahead.proofs.Turns.{each_quarter, found_quick, chosen_quick, chosen_inside}
use Rattle.ahead.proofs.turn.turn.Goals as goal

pub returns-then-all_below : goal.returns-then-all_below
returns-then-all_below c =
    let a = c.args in
    let below = c.all_below-2.ensures.0 c.if-all_below.true in
    record {
      each = λ k few. found_quick a.t.now a.states a.dense _ _ _ (c.four_cells-found.ensures.each k few) (below.each k few);
      inside = below;
    }

pub returns : goal.returns
returns c =
    let a = c.args in
    let some : 0 < a.states = omega (arith, c.requires.some_dense, c.requires.few_dense) in
    let found = c.four_cells-found in
    let chosen = each_quarter (λ k. get_or c.map.result k 0 ≡ cond (ltb (get_or found.result k 0) a.states) (get_or found.result k 0) 0) (search rules) (search rules) (search rules) (search rules) in
    record {
      each = λ k few. chosen_quick a.t.now a.states a.dense _ _ _ (found.ensures.each k few) _ (chosen k few);
      inside = record { each = λ k few. chosen_inside a.t.now a.states a.dense _ _ _ (found.ensures.each k few) some _ (chosen k few) };
    }
