-- The link is one number of two bytes: one more than the piece, 0 for none.
-- Assumes nothing.
use mathlib.Core.Path.{◌≡◌, ap, ◌∙◌}
use Prim.Native.Nat.{ℕ, ◌+◌}
use borrow.Author.Rules.{rules}
use Rattle.std.specs.Prelude.{Option, Some, None, MatchOption}
use Rattle.tables.specs.Reads.{as_link}
use Rattle.endings.specs.Filled.{with_link}
use Rattle.endings.proofs.put_link.Goals as goal

linked : (next : Option ℕ) (link : ℕ) (more : ℕ → Type 0) → MatchOption next (link ≡ 0) more → ((p : ℕ) → more p → link ≡ p + 1) → link ≡ as_link next
linked None link more e f = e
linked (Some p) link more e f = f p e

pub returns : goal.returns
unfolding with_link
returns c = c.put2.ensures ∙ ap (with_link c.args.t.now c.args.p) (linked c.args.next c.map_or-link.result _ c.map_or-link.ensures (λ p one. search rules))
