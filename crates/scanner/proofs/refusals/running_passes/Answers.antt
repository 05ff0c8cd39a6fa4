-- Each return is where the test stops, or where its last part decides.
-- Assumes nothing.
use mathlib.Core.Path.{sym, ap, ap₂, ◌∙◌}
use native.Mathlib.Omega.{arith}
use lib.Dec.{eqb}
use Rattle.tables.specs.Reads.{state_count_in, mark_in}
use Rattle.running.specs.Layout.{running_tag}
use Rattle.scanner.proofs.Passing.{whole, pass_small, pass_tag, pass_state, pass_place, pass_mark}
use Rattle.scanner.proofs.refusals.running_passes.Goals as goal

pub returns-then-too_small : goal.returns-then-too_small
returns-then-too_small c =
    let a = c.args in
    sym (pass_small a.t.now a.m.now (sym c.too_small.ensures ∙ c.if-too_small.true))

pub get8-requires : goal.get8-requires
get8-requires c =
    let large = sym c.too_small.ensures ∙ c.if-too_small.false in
    omega (arith, (whole _ _ large).1)

pub returns-then-get8-ne-RUNNING_TAG : goal.returns-then-get8-ne-RUNNING_TAG
unfolding running_tag
returns-then-get8-ne-RUNNING_TAG c =
    let a = c.args in
    let large = sym c.too_small.ensures ∙ c.if-too_small.false in
    sym (pass_tag a.t.now a.m.now large (λ e. c.if-get8-ne-RUNNING_TAG.true (c.get8.ensures ∙ e)))

pub of-tables-requires : goal.of-tables-requires
of-tables-requires c = (whole _ _ (sym c.too_small.ensures ∙ c.if-too_small.false)).0

pub state_of-requires : goal.state_of-requires
state_of-requires c = (whole _ _ (sym c.too_small.ensures ∙ c.if-too_small.false)).1

pub returns-then-state_count-index : goal.returns-then-state_count-index
unfolding running_tag
returns-then-state_count-index c =
    let a = c.args in
    let large = sym c.too_small.ensures ∙ c.if-too_small.false in
    let tagged = sym c.get8.ensures ∙ c.if-get8-ne-RUNNING_TAG.false in
    let count = c.state_count.ensures.0 ∙ ap state_count_in c.of-tables.ensures in
    sym (pass_state a.t.now a.m.now large tagged (omega (arith, count)))

pub place_of-requires : goal.place_of-requires
place_of-requires c = (whole _ _ (sym c.too_small.ensures ∙ c.if-too_small.false)).1

pub returns-then-bytes-gt-LARGEST_PLACE : goal.returns-then-bytes-gt-LARGEST_PLACE
unfolding running_tag
returns-then-bytes-gt-LARGEST_PLACE c =
    let a = c.args in
    let large = sym c.too_small.ensures ∙ c.if-too_small.false in
    let tagged = sym c.get8.ensures ∙ c.if-get8-ne-RUNNING_TAG.false in
    let count = c.state_count.ensures.0 ∙ ap state_count_in c.of-tables.ensures in
    sym (pass_place a.t.now a.m.now large tagged (omega (arith, count)) (omega arith))

pub get8-requires-2 : goal.get8-requires-2
get8-requires-2 c =
    let large = sym c.too_small.ensures ∙ c.if-too_small.false in
    omega (arith, (whole _ _ large).1)

pub returns : goal.returns
unfolding running_tag
returns c =
    let a = c.args in
    let large = sym c.too_small.ensures ∙ c.if-too_small.false in
    let tagged = sym c.get8.ensures ∙ c.if-get8-ne-RUNNING_TAG.false in
    let count = c.state_count.ensures.0 ∙ ap state_count_in c.of-tables.ensures in
    ap₂ eqb c.get8-2.ensures (c.mark.ensures ∙ ap mark_in c.of-tables.ensures) ∙ sym (pass_mark a.t.now a.m.now large tagged (omega (arith, count)) (omega arith))
