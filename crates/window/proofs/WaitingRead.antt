-- A piece that is set to wait has its bit, and nothing else is changed: bit and flag are one byte each, apart from all others.
-- Assumes nothing.
use mathlib.Core.Path.{◌≡◌, refl, sym, ap, ap₂, ◌∙◌}
use mathlib.Core.Logic.{inl, inr, ⊎_elim}
use mathlib.Core.Bool.{Bool, true, false, cond, ◌&&◌, ◌||◌, and-false, or-false, or-true, false≢true}
use mathlib.Core.List.{List, [], ◌∷◌}
use Prim.Native.Nat.{ℕ, zero, suc, ◌+◌, ◌*◌, ◌%◌, ◌≤◌, ◌<◌}
use native.Mathlib.Omega.{arith}
use lib.Dec.{eqb}
use lib.ListN.{get_or, set, length-set}
use lib.Seq.{get_or-set_same, get_or-set_other}
use borrow.Author.Tests.{eq-eqb, eqb-true, eqb-false}
use Rattle.lent.specs.Numbers.{Bytes, with_bytes}
use Rattle.lent.proofs.Bytes.{bytes_kept}
use Rattle.lent.proofs.Numbers.{number_apart_byte}
use Rattle.bits.specs.Bits.{bit_of, set_bit}
use Rattle.bits.proofs.Bits.{bit_set_lem, set_below}
use Rattle.meaning.proofs.Truth.{both, and_left, and_right, same_truth}
use Rattle.tables.specs.Layout.{room_for_pieces}
use Rattle.running.specs.Waiting.{slots, some_below}
use Rattle.running.specs.Layout.{flag_at, closing_at, ring_at}
use Rattle.running.specs.Reads.{WholeRunning, flag_in, closing_place_in, bit_at, waits_in}
use Rattle.running.specs.Held.{Flagged}
use Rattle.running.proofs.Below.{some_below_iff, some_below_same}
use Rattle.window.specs.Waiting.{flagged, with_waiting}
use Rattle.window.specs.Places.{size_number, Outside, Elsewhere}

pub closing_set : (m : List ℕ) (i v p : ℕ) → Outside i → p < room_for_pieces → closing_place_in (set m i v) p ≡ closing_place_in m p
closing_set m i v p outside room =
    number_apart_byte 8 m i v (closing_at + 8 * p) (⊎_elim (λ (l : i < closing_at). inr (omega arith)) (λ (l : ring_at ≤ i). inl (omega arith)) outside)

pub bytes_set : (m : List ℕ) (i v : ℕ) → v < 256 → Bytes m → Bytes (set m i v)
unfolding with_bytes
bytes_set m i v small bytes = bytes_kept m i (v ∷ []) bytes alone
  where
    alone : Bytes (v ∷ [])
    alone zero = small
    alone (suc k) = omega arith

module _ (m : List ℕ) (s p : ℕ) (whole : WholeRunning m) (slot : s < slots) (piece : p < room_for_pieces) where
  abbrev bit_set : List ℕ
  bit_set = set m (bit_at s p) (set_bit (get_or m (bit_at s p) 0) (p % 8))

  pub closing_waiting : (g : ℕ) → g < room_for_pieces → closing_place_in (with_waiting m s p) g ≡ closing_place_in m g
  unfolding with_waiting
  closing_waiting g room = closing_set bit_set (flag_at + s) flagged g (inl (omega arith)) room ∙ closing_set m (bit_at s p) (set_bit (get_or m (bit_at s p) 0) (p % 8)) g (inr (omega arith)) room

  -- A piece waits in a slot if it did, or is the one and the slot is the one.
  pub waits_waiting : (q g : ℕ) → q < slots → g < room_for_pieces → waits_in (with_waiting m s p) q g ≡ waits_in m q g || (eqb g p && eqb q s)
  unfolding with_waiting waits_in
  waits_waiting q g hq hg =
      ap (λ (y : ℕ). bit_of y (g % 8)) (get_or-set_other bit_set (flag_at + s) (bit_at q g) flagged 0 (λ e. omega arith))
      ∙ go (eqb (bit_at q g) (bit_at s p)) refl
    where
      old : Bool
      old = bit_of (get_or m (bit_at q g) 0) (g % 8)

      go : (v : Bool) → eqb (bit_at q g) (bit_at s p) ≡ v
          → bit_of (get_or bit_set (bit_at q g) 0) (g % 8) ≡ old || (eqb g p && eqb q s)
      go true e =
          let z : bit_at q g ≡ bit_at s p = eqb-true (bit_at q g) (bit_at s p) e in
          let same : eqb (g % 8) (p % 8) ≡ eqb g p && eqb q s = same_truth (eqb (g % 8) (p % 8)) (eqb g p && eqb q s) (
            λ u. let w = eqb-true (g % 8) (p % 8) u in both (eqb g p) (eqb q s) (eq-eqb g p (omega arith)) (eq-eqb q s (omega arith)),
            λ u. let w = eqb-true g p (and_left (eqb g p) (eqb q s) u) in eq-eqb (g % 8) (p % 8) (omega arith),
          ) in
          rw z (ap (λ (y : ℕ). bit_of y (g % 8)) (get_or-set_same m (bit_at s p) (set_bit (get_or m (bit_at s p) 0) (p % 8)) 0 (omega arith))
          ∙ bit_set_lem (get_or m (bit_at s p) 0) (p % 8) (g % 8) ∙ ap (λ v. bit_of (get_or m (bit_at s p) 0) (g % 8) || v) same)
      go false e =
          let apart : bit_at q g ≡ bit_at s p → ⊥ = eqb-false (bit_at q g) (bit_at s p) e in
          let none : eqb g p && eqb q s ≡ false = same_truth (eqb g p && eqb q s) false (
            λ u. let w = eqb-true g p (and_left (eqb g p) (eqb q s) u) in let x = eqb-true q s (and_right (eqb g p) (eqb q s) u) in absurd (apart (omega arith)),
            λ u. absurd (false≢true u),
          ) in
          ap (λ (y : ℕ). bit_of y (g % 8)) (get_or-set_other m (bit_at s p) (bit_at q g) (set_bit (get_or m (bit_at s p) 0) (p % 8)) 0 apart) ∙ sym (ap (λ v. old || v) none ∙ or-false old)

  -- ── Flags ──

  flag_waiting : (q : ℕ) → q < slots → flag_in (with_waiting m s p) q ≡ cond (eqb q s) flagged (flag_in m q)
  unfolding with_waiting
  flag_waiting q hq = go (eqb q s) refl
    where
      go : (v : Bool) → eqb q s ≡ v → get_or (set bit_set (flag_at + s) flagged) (flag_at + q) 0 ≡ cond v flagged (flag_in m q)
      go true e =
          let z : q ≡ s = eqb-true q s e in
          rw z (get_or-set_same bit_set (flag_at + s) flagged 0 (rw length-set (omega arith)))
      go false e =
          let apart : q ≡ s → ⊥ = eqb-false q s e in
          get_or-set_other bit_set (flag_at + s) (flag_at + q) flagged 0 (λ z. apart (omega arith))
          ∙ get_or-set_other m (bit_at s p) (flag_at + q) (set_bit (get_or m (bit_at s p) 0) (p % 8)) 0 (λ z. omega arith)

  -- The flags still say which slots have a bit: this one has.
  pub flags_waiting : Flagged m → Flagged (with_waiting m s p)
  unfolding Flagged
  flags_waiting flags q hq = flag_waiting q hq ∙ go (eqb q s) refl
    where
      go : (v : Bool) → eqb q s ≡ v → cond v flagged (flag_in m q) ≡ cond (some_below (waits_in (with_waiting m s p) q) room_for_pieces) 128 0
      go true e =
          let bit : waits_in (with_waiting m s p) q p ≡ true =
          waits_waiting q p hq piece ∙ ap (λ v. waits_in m q p || v) (ap₂ ◌&&◌ (eq-eqb p p refl) e) ∙ or-true (waits_in m q p) in
          sym (ap (λ v. cond v 128 0) ((some_below_iff (waits_in (with_waiting m s p) q) room_for_pieces).1 (p, piece, bit)))
      go false e =
          flags q hq ∙ ap (λ v. cond v 128 0) (some_below_same (waits_in m q) (waits_in (with_waiting m s p) q) room_for_pieces
          (λ g hg. sym (waits_waiting q g hq hg ∙ ap (λ v. waits_in m q g || (eqb g p && v)) e ∙ ap (λ v. waits_in m q g || v) (and-false (eqb g p)) ∙ or-false (waits_in m q g))))

  -- ── All other bytes ──

  pub byte_waiting : (i : ℕ) → Elsewhere i → get_or (with_waiting m s p) i 0 ≡ get_or m i 0
  unfolding with_waiting
  byte_waiting i there =
      get_or-set_other bit_set (flag_at + s) i flagged 0 (apart (flag_at + s) (omega arith) (omega arith))
      ∙ get_or-set_other m (bit_at s p) i (set_bit (get_or m (bit_at s p) 0) (p % 8)) 0 (apart (bit_at s p) (omega arith) (omega arith))
    where
      apart : (k : ℕ) → flag_at ≤ k → k < size_number → i ≡ k → ⊥
      apart k from to e = ⊎_elim (λ (l : i < flag_at). omega arith) (λ (l : size_number ≤ i). omega arith) there

pub bytes_waiting : (m : List ℕ) (s p : ℕ) → Bytes m → Bytes (with_waiting m s p)
unfolding with_waiting
bytes_waiting m s p bytes =
    let bit : ℕ = set_bit (get_or m (bit_at s p) 0) (p % 8) in
    bytes_set (set m (bit_at s p) bit) (flag_at + s) flagged (omega arith)
    (bytes_set m (bit_at s p) bit (set_below 8 (get_or m (bit_at s p) 0) (p % 8) (bytes (bit_at s p)) (omega arith)) bytes)
