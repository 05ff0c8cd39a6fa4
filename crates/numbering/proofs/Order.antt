-- The order by length, then by bytes: strings that differ somewhere differ there still when more bytes follow.
-- Assumes nothing.
use mathlib.Core.Path.{◌≡◌, refl, ◌∙◌}
use mathlib.Core.Logic.{inl, inr, ⊎_elim}
use mathlib.Core.List.{List, [], ◌∷◌, ◌++◌}
use Prim.Native.Nat.{ℕ, suc, ◌≤◌, ◌<◌}
use native.Mathlib.Omega.{arith}
use lib.ListN.{length, length-append}
use Rattle.numbering.specs.Order.{ByBytes, Before}
use Rattle.numbering.specs.States.{last_byte}

-- ── One byte more ──

pub length_snoc : (u : List ℕ) (a : ℕ) → length (u ++ a ∷ []) ≡ suc (length u)
length_snoc u a = length-append u (a ∷ []) ∙ omega arith

pub last_byte_snoc : (u : List ℕ) (a : ℕ) → last_byte (u ++ a ∷ []) ≡ a
unfolding last_byte
last_byte_snoc [] a = refl
last_byte_snoc (x ∷ []) a = refl
last_byte_snoc (x ∷ y ∷ u) a = last_byte_snoc (y ∷ u) a

-- ── By bytes ──

bytes_not_after : (u v : List ℕ) → ByBytes u v → ByBytes v u → ⊥
unfolding ByBytes
bytes_not_after [] v p q = p
bytes_not_after (x ∷ u) [] p q = p
bytes_not_after (x ∷ u) (y ∷ v) p q = ⊎_elim
    (λ a. ⊎_elim (λ b. omega (arith, a, b)) (λ b. omega (arith, a, b.0)) q)
    (λ a. ⊎_elim (λ b. omega (arith, a.0, b)) (λ b. bytes_not_after u v a.1 b.1) q)
    p

bytes_more : (u v s t : List ℕ) → ByBytes u v → ByBytes (u ++ s) (v ++ t)
unfolding ByBytes
bytes_more [] v s t p = absurd p
bytes_more (x ∷ u) [] s t p = absurd p
bytes_more (x ∷ u) (y ∷ v) s t p = ⊎_elim inl (λ a. inr (a.0, bytes_more u v s t a.1)) p

bytes_last : (u : List ℕ) (a b : ℕ) → a < b → ByBytes (u ++ a ∷ []) (u ++ b ∷ [])
unfolding ByBytes
bytes_last [] a b h = inl h
bytes_last (x ∷ u) a b h = inr (refl, bytes_last u a b h)

-- ── By length, then by bytes ──

-- Of two strings only one comes before the other; so none comes before itself.
pub before_not_after : (u v : List ℕ) → Before u v → Before v u → ⊥
unfolding Before
before_not_after u v p q = ⊎_elim
    (λ (a : length u < length v). ⊎_elim (λ (b : length v < length u). omega arith) (λ b. omega (arith, b.0)) q)
    (λ a. ⊎_elim (λ (b : length v < length u). omega (arith, a.0)) (λ b. bytes_not_after u v a.1 b.1) q)
    p

pub before_other : (u v : List ℕ) → Before u v → u ≡ v → ⊥
before_other u v p e = let q : Before v v = rw e at p in before_not_after v v q q

pub before_length : (u v : List ℕ) → Before u v → length u ≤ length v
unfolding Before
before_length u v p = ⊎_elim (λ (a : length u < length v). omega arith) (λ a. omega (arith, a.0)) p

-- The empty string comes before every other.
pub before_empty : (u : List ℕ) (a : ℕ) → Before [] (u ++ a ∷ [])
unfolding Before
before_empty u a = inl (omega (arith, length_snoc u a))

-- Children come in the order of their parents, and those of one parent in the order of their last bytes.
pub before_children : (u v : List ℕ) (a b : ℕ) → Before u v → Before (u ++ a ∷ []) (v ++ b ∷ [])
unfolding Before
before_children u v a b p = ⊎_elim
    (λ (h : length u < length v). inl (omega (arith, length_snoc u a, length_snoc v b)))
    (λ h. inr (omega (arith, h.0, length_snoc u a, length_snoc v b), bytes_more u v (a ∷ []) (b ∷ []) h.1))
    p

pub before_last : (u : List ℕ) (a b : ℕ) → a < b → Before (u ++ a ∷ []) (u ++ b ∷ [])
unfolding Before
before_last u a b h = inr (omega (arith, length_snoc u a, length_snoc u b), bytes_last u a b h)
