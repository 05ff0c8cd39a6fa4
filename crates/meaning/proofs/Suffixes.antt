-- The suffixes of some bytes are the bytes themselves and the suffixes of what follows the first byte, so every law goes by that.
-- Assumes nothing.
use mathlib.Core.Path.{◌≡◌, refl, sym, ap, ◌∙◌}
use mathlib.Core.Logic.{◌↔◌, ◌⊎◌, inl, inr, ⊎_elim}
use mathlib.Core.List.Memᴰ
use mathlib.Core.List.{List, [], ◌∷◌, ◌++◌, append_assoc, Memᴰ}
use Prim.Native.Nat.{ℕ, ◌+◌, ◌≤◌, ◌<◌}
use native.Mathlib.Omega.{arith}
use lib.ListN.{length, length-append}
use lib.Seq.{drop-append_seam}
use Rattle.meaning.specs.Reports.{Sorted}
use Rattle.meaning.specs.Automaton.{Suffix, suffixes}

pub suffix_self : (u : List ℕ) → Suffix u u
suffix_self u = record { before = []; split = refl }

pub suffix_trans : {s u v : List ℕ} → Suffix s u → Suffix u v → Suffix s v
suffix_trans {s} {u} {v} h k = record {
  before = k.before ++ h.before;
  split = append_assoc k.before h.before s ∙ rw h.split k.split;
}

pub suffix_length : {s u : List ℕ} → Suffix s u → length s ≤ length u
suffix_length {s} {u} h = omega (arith, length-append h.before s, ap length h.split)

-- A suffix of some bytes is they themselves, or a suffix of what follows the first byte.
pub suffix_cons : (s : List ℕ) (x : ℕ) (u : List ℕ) → Suffix s (x ∷ u) ↔ ((s ≡ x ∷ u) ⊎ Suffix s u)
suffix_cons s x u = (
  λ h. to h.before h.split,
  ⊎_elim
      (λ (e : s ≡ x ∷ u). record { before = []; split = e })
      (λ h. record { before = x ∷ h.before; split = ap {B = List ℕ} (λ l. x ∷ l) h.split }),
)
  where
    to : (before : List ℕ) → before ++ s ≡ x ∷ u → (s ≡ x ∷ u) ⊎ Suffix s u
    to [] e = inl e
    to (y ∷ before) e = inr (record { before = before; split = cc })

-- The empty string has no suffix but itself.
pub suffix_nil : {s : List ℕ} → Suffix s [] → s ≡ []
suffix_nil {s} h = go s (suffix_length h)
  where
    go : (s : List ℕ) → length s ≤ 0 → s ≡ []
    go [] l = refl
    go (x ∷ s) l = absurd (omega arith)

-- Two suffixes of the same bytes that are equally long are one.
pub suffix_one : {s r u : List ℕ} → Suffix s u → Suffix r u → length s ≡ length r → s ≡ r
suffix_one {s} {r} {u} h k e =
    let p : length h.before + length s ≡ length u = sym (length-append h.before s) ∙ ap length h.split in
    let q : length k.before + length r ≡ length u = sym (length-append k.before r) ∙ ap length k.split in
    let n : length h.before ≡ length k.before = omega arith in
    sym (drop-append_seam h.before s) ∙ rw (h.split, n, ← k.split) (drop-append_seam k.before r)

-- ── The list of the suffixes ──

-- It has the suffixes and nothing else.
pub suffixes_iff : (u s : List ℕ) → Memᴰ s (suffixes u) ↔ Suffix s u
unfolding suffixes
suffixes_iff [] s = (
  λ m. ⊎_elim (λ (e : s ≡ []). record { before = []; split = e }) (λ k. absurd (Memᴰ.not-nil k)) (Memᴰ.cases_cons m),
  λ h. Memᴰ.head (suffix_nil h),
)
suffixes_iff (x ∷ u) s = (
  λ m. (suffix_cons s x u).1 (⊎_elim inl (λ k. inr ((suffixes_iff u s).0 k)) (Memᴰ.cases_cons m)),
  λ h. ⊎_elim Memᴰ.head (λ k. Memᴰ.tail ((suffixes_iff u s).1 k)) ((suffix_cons s x u).0 h),
)

-- The longest stands first and each is shorter than those before it, so that none stands there twice.
pub suffixes_fall : (u : List ℕ) → Sorted (λ s r. length r < length s) (suffixes u)
unfolding suffixes Sorted
suffixes_fall [] = (λ r m. absurd (Memᴰ.not-nil m), tt)
suffixes_fall (x ∷ u) = (λ r m. omega (arith, suffix_length ((suffixes_iff u r).0 m)), suffixes_fall u)
