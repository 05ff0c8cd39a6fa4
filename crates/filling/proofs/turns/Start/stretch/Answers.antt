-- A state's bytes begin where its keyword does; where there is no keyword, there is none for the root either.
-- Assumes nothing.
use mathlib.Core.Path.{sym, ap}
use Prim.Native.Nat.{◌≤◌}
use native.Mathlib.Omega.{arith}
use lib.ListN.{length, get_or-eq_default}
use Rattle.survey.specs.declared.stretch.Stretch.{Stretch}
use Rattle.survey.specs.Stretches.{stretch, nowhere}
use Rattle.filling.specs.Turns.{stretch_of}
use Rattle.filling.proofs.turns.Start.stretch.Goals as goal

pub returns-in-Some : goal.returns-in-Some
unfolding stretch_of
returns-in-Some c =
    let a = c.args in
    ap (λ (word : Stretch). stretch word.offset a.self.count) (rw c.from.ensures at (c.in-Some.ensures.lookup.3.1 nowhere))

pub returns-in-None : goal.returns-in-None
unfolding stretch_of
returns-in-None c =
    let a = c.args in
    let past : length a.words.now ≤ a.self.keyword = omega (arith, c.in-None.ensures.lookup.3, c.from.ensures) in
    sym (ap (λ (word : Stretch). stretch word.offset a.self.count) (get_or-eq_default a.words.now nowhere past))
