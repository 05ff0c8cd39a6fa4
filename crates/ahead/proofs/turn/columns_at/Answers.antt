-- Each column fits, since all do.
-- Assumes nothing.
use mathlib.Core.Path.{◌≡◌}
use Prim.Native.Nat.{◌≤◌}
use borrow.Author.Rules.{rules}
use native.Mathlib.Omega.{arith}
use lib.ListN.{get_or}
use Rattle.tables.specs.Layout.{room_for_states}
use Rattle.tables.specs.Reads.{Whole, column_in}
use Rattle.ahead.specs.Cursors.{byte_of}
use Rattle.ahead.proofs.Turns.{each_quarter, column_of_lem}
use Rattle.ahead.proofs.turn.columns_at.Goals as goal

pub returns : goal.returns
returns c =
    let a = c.args in
    let ready = c.requires in
    let rows : a.dense ≤ room_for_states = omega (arith, ready.few_dense, ready.few_states) in
    let read = each_quarter (λ k. get_or c.from_fn.result k 0 ≡ column_in a.t.now (byte_of a.part.now a.at a.quarter k)) (search rules) (search rules) (search rules) (search rules) in
    let whole : Whole a.t.now = search rules in
    record { each = λ k few. column_of_lem a.t.now a.dense (byte_of a.part.now a.at a.quarter k) _ whole ready.columns ready.rows rows (search rules) (read k few) }
