-- The returns are the two cases of the span.
-- Assumes nothing.
use mathlib.Core.Path.{sym, ap, ◌∙◌}
use Prim.Native.Nat.{ℕ, ◌+◌}
use Rattle.running.specs.Waiting.{never}
use Rattle.window.proofs.Opening.{closes_never, closes_later}
use Rattle.window.proofs.opens.closing_place.Goals as goal

pub returns-then-span-eq-NEVER_CLOSES : goal.returns-then-span-eq-NEVER_CLOSES
unfolding never
returns-then-span-eq-NEVER_CLOSES c =
    let a = c.args in
    c.at.ensures ∙ sym (closes_never a.span a.opened.0 c.if-span-eq-NEVER_CLOSES.true)

pub returns : goal.returns
returns c =
    let a = c.args in
    c.later.ensures ∙ ap (λ (n : ℕ). a.opened.0 + n) c.from.ensures ∙ sym (closes_later a.span a.opened.0 c.if-span-eq-NEVER_CLOSES.false)
