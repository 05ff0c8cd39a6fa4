-- No second answer satisfies what is promised: each is the one that the definition gives.
-- Assumes nothing.
use mathlib.Core.Path.{◌≡◌, sym, ◌∙◌}
use mathlib.Core.List.{List}
use Prim.Native.Nat.{ℕ}
use Rattle.listing.specs.Writing.{Left}
use Rattle.lines.specs.Last.{LastPromise, TooLongPromise}

pub last_once : (out : List ℕ) (taken hits steps : ℕ) (a b : Left) → LastPromise out taken hits steps a → LastPromise out taken hits steps b → a ≡ b
last_once out taken hits steps a b p q = p.exact ∙ sym q.exact

pub too_long_once : (out : List ℕ) (taken : ℕ) (a b : Left) → TooLongPromise out taken a → TooLongPromise out taken b → a ≡ b
too_long_once out taken a b p q = p.exact ∙ sym q.exact
