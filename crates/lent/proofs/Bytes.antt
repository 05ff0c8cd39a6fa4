-- Bytes written at a place stand there and nowhere else: each store changes one element, and the next one lies past it.
-- Assumes nothing.
use mathlib.Core.Path.{◌≡◌, refl, ap, ap₂, ◌∙◌}
use mathlib.Core.Logic.{inl, inr, ⊎_elim}
use mathlib.Core.List.{List, [], ◌∷◌, ◌++◌}
use Prim.Native.Nat.{ℕ, zero, suc, ◌+◌, ◌≤◌, ◌<◌}
use native.Mathlib.Nat.{add-zero, zero-add, suc-add}
use native.Mathlib.Omega.{arith}
use lib.ListN.{length, get_or, set, length-set}
use lib.Seq.{get_or-set_same, get_or-set_other, set_out}
use Rattle.lent.specs.Numbers.{Bytes, bytes_at, with_bytes, Apart}
use Rattle.lent.proofs.Cases.{lt_or_le, eq_or_ne}

pub length_bytes_at : (n : ℕ) (s : List ℕ) (i : ℕ) → length (bytes_at n s i) ≡ n
unfolding bytes_at
length_bytes_at zero s i = refl
length_bytes_at (suc n) s i = ap suc (length_bytes_at n s (i + 1))

pub bytes_bytes_at : (n : ℕ) (s : List ℕ) (i : ℕ) → Bytes s → Bytes (bytes_at n s i)
unfolding bytes_at
bytes_bytes_at zero s i h k = omega arith
bytes_bytes_at (suc n) s i h zero = h i
bytes_bytes_at (suc n) s i h (suc k) = bytes_bytes_at n s (i + 1) h k

pub length_with_bytes : (s : List ℕ) (i : ℕ) (bs : List ℕ) → length (with_bytes s i bs) ≡ length s
unfolding with_bytes
length_with_bytes s i [] = refl
length_with_bytes s i (b ∷ bs) = length_with_bytes (set s i b) (i + 1) bs ∙ length-set s i b

-- A byte apart from those written is as it was.
pub byte_apart : (s : List ℕ) (i : ℕ) (bs : List ℕ) (j : ℕ) → Apart j 1 i (length bs) → get_or (with_bytes s i bs) j 0 ≡ get_or s j 0
unfolding with_bytes
byte_apart s i [] j h = refl
byte_apart s i (b ∷ bs) j h = byte_apart (set s i b) (i + 1) bs j (next h) ∙ get_or-set_other s i j b 0 (differ h)
  where
    next : Apart j 1 i (suc (length bs)) → Apart j 1 (i + 1) (length bs)
    next (inl a) = inl (omega arith)
    next (inr a) = inr (omega arith)

    differ : Apart j 1 i (suc (length bs)) → j ≡ i → ⊥
    differ (inl a) e = omega arith
    differ (inr a) e = omega arith

-- The byte k of those written.
pub byte_written : (s : List ℕ) (i : ℕ) (bs : List ℕ) (k : ℕ) → i + length bs ≤ length s → k < length bs → get_or (with_bytes s i bs) (i + k) 0 ≡ get_or bs k 0
unfolding with_bytes
byte_written s i [] k room small = absurd (omega arith)
byte_written s i (b ∷ bs) zero room small =
    rw add-zero (byte_apart (set s i b) (i + 1) bs i (inl (omega arith)) ∙ get_or-set_same s i b 0 (omega arith))
byte_written s i (b ∷ bs) (suc k) room small =
    let e : i + suc k ≡ i + 1 + k = omega arith in
    rw e (byte_written (set s i b) (i + 1) bs k (simp length-set (omega arith)) (omega arith))

-- Lists that agree in the n bytes from i on have the same bytes there.
pub bytes_agree : (n : ℕ) (s t : List ℕ) (i : ℕ) → ((k : ℕ) → i ≤ k → k < i + n → get_or s k 0 ≡ get_or t k 0) → bytes_at n s i ≡ bytes_at n t i
unfolding bytes_at
bytes_agree zero s t i h = refl
bytes_agree (suc n) s t i h =
    ap₂ (λ (b : ℕ) (bs : List ℕ). b ∷ bs) (h i (omega arith) (omega arith)) (bytes_agree n s t (i + 1) (λ k a b. h k (omega arith) (omega arith)))

-- Bytes apart from those written are as they were.
pub bytes_apart : (m : ℕ) (s : List ℕ) (i : ℕ) (bs : List ℕ) (j : ℕ) → Apart j m i (length bs) → bytes_at m (with_bytes s i bs) j ≡ bytes_at m s j
bytes_apart m s i bs j h = bytes_agree m (with_bytes s i bs) s j (λ k a b. byte_apart s i bs k (one k a b h))
  where
    one : (k : ℕ) → j ≤ k → k < j + m → Apart j m i (length bs) → Apart k 1 i (length bs)
    one k a b (inl p) = inl (omega arith)
    one k a b (inr p) = inr (omega arith)

-- The bytes written are read back.
pub bytes_written : (s : List ℕ) (i : ℕ) (bs : List ℕ) → i + length bs ≤ length s → bytes_at (length bs) (with_bytes s i bs) i ≡ bs
unfolding bytes_at with_bytes
bytes_written s i [] room = refl
bytes_written s i (b ∷ bs) room =
    ap₂
    (λ (c : ℕ) (cs : List ℕ). c ∷ cs)
    (byte_apart (set s i b) (i + 1) bs i (inl (omega arith)) ∙ get_or-set_same s i b 0 (omega arith))
    (bytes_written (set s i b) (i + 1) bs (simp length-set (omega arith)))

-- Every element is still a byte.
pub bytes_kept : (s : List ℕ) (i : ℕ) (bs : List ℕ) → Bytes s → Bytes bs → Bytes (with_bytes s i bs)
unfolding with_bytes
bytes_kept s i [] old new = old
bytes_kept s i (b ∷ bs) old new = bytes_kept (set s i b) (i + 1) bs stored (λ k. new (suc k))
  where
    stored : Bytes (set s i b)
    stored k =
        let same : k ≡ i → i < length s → get_or (set s i b) k 0 ≡ b = λ e a. ap (λ (j : ℕ). get_or (set s i b) j 0) e ∙ get_or-set_same s i b 0 a in
        ⊎_elim
        (λ e. ⊎_elim (λ a. omega (arith, same e a, new 0)) (λ a. rw (set_out s i b a) (old k)) (lt_or_le i (length s)))
        (λ d. rw (get_or-set_other s i k b 0 d) (old k))
        (eq_or_ne k i)

-- The bytes of a longer part are those of a shorter one, and then the others.
pub bytes_split : (m n : ℕ) (s : List ℕ) (i : ℕ) → bytes_at (m + n) s i ≡ bytes_at m s i ++ bytes_at n s (i + m)
unfolding bytes_at
bytes_split zero n s i = rw (zero-add, add-zero)
bytes_split (suc m) n s i =
    let e : i + suc m ≡ i + 1 + m = omega arith in
    rw (suc-add, e, bytes_split m n s (i + 1))

pub with_bytes_split : (s : List ℕ) (i : ℕ) (a b : List ℕ) → with_bytes s i (a ++ b) ≡ with_bytes (with_bytes s i a) (i + length a) b
unfolding with_bytes
with_bytes_split s i [] b = rw add-zero
with_bytes_split s i (c ∷ a) b =
    let e : i + suc (length a) ≡ i + 1 + length a = omega arith in
    rw (e, with_bytes_split (set s i c) (i + 1) a b)
