-- Whether it is quiet at the place decides, as it does for one place of the definition.
-- Assumes nothing.
use mathlib.Core.Path.{refl, sym, ◌∙◌}
use native.Mathlib.Omega.{arith}
use Rattle.skimming.proofs.Looks.{one_place, first_state, kept_further}
use Rattle.skimming.proofs.one_more.Goals as goal

pub gain-requires : goal.gain-requires
gain-requires c =
    let a = c.args in
    let state = c.numbered-state in
    let ready = c.requires.0 in
    first_state a.ahead.now a.from.at a.from.left ready.states c.requires.1 state.result.0 state.ensures

pub is_quiet-requires : goal.is_quiet-requires
is_quiet-requires c =
    let a = c.args in
    let state = c.numbered-state in
    let ready = c.requires.0 in
    (ready.memory, first_state a.ahead.now a.from.at a.from.left ready.states c.requires.1 state.result.0 state.ensures)

pub returns : goal.returns
returns c =
    let a = c.args in
    let from = a.from in
    let some = c.requires.1 in
    let gain = c.from.ensures ∙ c.gain.ensures in (
      one_place a.t.now a.m.now a.ahead.now from.at from.place.0 from.gains from.left from.event c.requires.0.quiet some
          _ _ _ c.is_quiet.result c.numbered-state.ensures gain c.next-place.ensures (sym c.is_quiet.ensures),
      kept_further 1 from _ some refl refl c.next-place.ensures (omega (arith, gain)),
      omega (arith, some),
    )
