-- Two stores at the next two places are the two numbers of the report.
-- Assumes nothing.
use mathlib.Core.Path.{ap₂, ◌∙◌}
use mathlib.Core.List.{[], ◌∷◌}
use Prim.Native.Nat.{ℕ, ◌*◌}
use Rattle.lent.specs.Numbers.{with_bytes}
use Rattle.marks.specs.Reported.{entries}
use Rattle.marks.proofs.put_report.Goals as goal

pub returns : goal.returns
unfolding entries with_bytes
returns c =
    let a = c.args in
    let number = c.from.ensures ∙ c.value.ensures ∙ c.phrase_number.ensures in
    ap₂ (λ (n e : ℕ). with_bytes a.room.now (2 * a.written) (n ∷ e ∷ [])) number c.bytes.ensures
