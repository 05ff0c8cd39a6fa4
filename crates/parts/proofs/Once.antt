-- No second answer satisfies what is promised, and no second memory: each is the one that the definition gives.
-- Assumes nothing.
use mathlib.Core.Path.{◌≡◌, sym, ◌∙◌}
use mathlib.Core.List.{List}
use Prim.Native.Nat.{ℕ}
use Rattle.parts.specs.Exact.{OpenEnd, ListEnd}
use Rattle.parts.specs.Promised.{OpenPromise, ListPromise}

pub open_once : (book t m out : List ℕ) (a b : OpenEnd) → OpenPromise book t m out a → OpenPromise book t m out b → a ≡ b
open_once book t m out a b p q = p.exact ∙ sym q.exact

pub list_once : (t m part room out : List ℕ) (a b : ListEnd) → ListPromise t m part room out a → ListPromise t m part room out b → a ≡ b
list_once t m part room out a b p q = p.exact ∙ sym q.exact
