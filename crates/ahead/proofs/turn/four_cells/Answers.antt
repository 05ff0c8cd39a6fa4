-- Each cell is what is found, since its state is dense and its column fits.
-- Assumes nothing.
use mathlib.Core.Path.{◌≡◌}
use borrow.Author.Rules.{rules}
use lib.ListN.{get_or}
use Rattle.tables.specs.Reads.{cell_in}
use Rattle.ahead.proofs.Turns.{each_quarter, cell_found}
use Rattle.ahead.proofs.turn.four_cells.Goals as goal

pub returns : goal.returns
returns c =
    let a = c.args in
    let cells = each_quarter (λ k. get_or c.from_fn.result k 0 ≡ cell_in a.t.now (get_or a.columns k 0) (get_or a.from k 0)) (search rules) (search rules) (search rules) (search rules) in
    record { each = λ k few. cell_found a.t.now a.dense _ _ _ (c.requires.1.each k few) (c.requires.2.each k few) a.states _ (cells k few) }
