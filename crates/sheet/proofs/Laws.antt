-- A sheet takes bytes while they fit, and keeps its length. What is left out the first time is left out still when more is written.
-- Assumes nothing.
use mathlib.Core.Path.{◌≡◌, refl, ap, ◌∙◌}
use mathlib.Core.List.{List, [], ◌∷◌, ◌++◌}
use Prim.Native.Nat.{ℕ, zero, suc, ◌+◌, ◌≤◌, ◌<◌}
use native.Mathlib.Numerals.{add-one}
use lib.ListN.{length, set, take}
use borrow.Author.Tests.{lt-ltb, le-ltb}
use Rattle.std.proofs.Common.{append_assoc}
use Rattle.sheet.specs.Sheets.{Sheet, with_byte, with_many}

-- ── On lent bytes ──

pub byte_fits : (s : List ℕ) (at v : ℕ) → at < length s
    → ◌≡◌ {A = Sheet} (record { bytes = set s at v; next = at + 1 }) (with_byte (record { bytes = s; next = at }) v)
unfolding with_byte
byte_fits s at v h = rw (lt-ltb at (length s) h)

pub byte_left : (s : List ℕ) (at v : ℕ) → length s ≤ at → ◌≡◌ {A = Sheet} (record { bytes = s; next = at }) (with_byte (record { bytes = s; next = at }) v)
unfolding with_byte
byte_left s at v h = rw (le-ltb at (length s) h)

-- One turn more.
pub many_more : (first before later : Sheet) (n v : ℕ) → before ≡ with_many first n v → later ≡ with_byte before v → later ≡ with_many first (n + 1) v
unfolding with_many
many_more first before later n v h k = rw add-one (k ∙ ap (λ (s : Sheet). with_byte s v) h)

-- ── On a sheet ──

-- What is cut off once is cut off when more comes behind it.
pub take_take : (n : ℕ) (xs ys : List ℕ) → take n (take n xs ++ ys) ≡ take n (xs ++ ys)
take_take zero xs ys = refl
take_take (suc n) [] ys = refl
take_take (suc n) (x ∷ xs) ys = ap (λ (l : List ℕ). x ∷ l) (take_take n xs ys)

-- Some bytes, and then some more.
pub and_then : (n : ℕ) (first middle last more again : List ℕ)
    → middle ≡ take n (first ++ more) → last ≡ take n (middle ++ again) → last ≡ take n (first ++ (more ++ again))
and_then n first middle last more again h k = k ∙ rw (h, take_take, append_assoc)
