-- Each return is where the test stops, or where its last part decides.
-- Assumes nothing.
use mathlib.Core.Path.{refl, sym, ap, ◌∙◌}
use Rattle.format.specs.Faults.{between}
use Rattle.tables.specs.Layout.{room_for_phrases}
use Rattle.tables.proofs.Passing.{tested, counts_states, counts_dense, counts_pieces, counts_phrases}
use Rattle.tables.proofs.Tables.counts_pass.Goals as goal

pub returns-then-not-between : goal.returns-then-not-between
returns-then-not-between c = sym (counts_states c.args.self.now (tested 2 c.between.ensures refl c.state_count-states.ensures.0 c.if-not-between.true))

pub returns-then-not-between-2 : goal.returns-then-not-between-2
returns-then-not-between-2 c =
    sym (counts_dense c.args.self.now
    (tested 2 c.between.ensures refl c.state_count-states.ensures.0 c.if-not-between.false)
    (tested 1 c.between-2.ensures c.state_count-states.ensures.0 c.dense.ensures.0 c.if-not-between-2.true))

pub returns-then-not-between-3 : goal.returns-then-not-between-3
returns-then-not-between-3 c =
    sym (counts_pieces c.args.self.now
    (tested 2 c.between.ensures refl c.state_count-states.ensures.0 c.if-not-between.false)
    (tested 1 c.between-2.ensures c.state_count-states.ensures.0 c.dense.ensures.0 c.if-not-between-2.false)
    (tested 1 c.between-3.ensures refl c.piece_count.ensures.0 c.if-not-between-3.true))

pub returns : goal.returns
returns c =
    c.between-4.ensures
    ∙ ap (between 1 room_for_phrases) c.phrase_count.ensures.0
    ∙ sym (counts_phrases c.args.self.now
    (tested 2 c.between.ensures refl c.state_count-states.ensures.0 c.if-not-between.false)
    (tested 1 c.between-2.ensures c.state_count-states.ensures.0 c.dense.ensures.0 c.if-not-between-2.false)
    (tested 1 c.between-3.ensures refl c.piece_count.ensures.0 c.if-not-between-3.false))
