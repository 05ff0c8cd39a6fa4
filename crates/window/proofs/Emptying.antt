-- An emptied slot has no bit and no flag, and every other slot and all closing places are as they were: its bytes are its own.
-- Assumes nothing.
use mathlib.Core.Path.{◌≡◌, refl, sym, ap, ◌∙◌}
use mathlib.Core.Logic.{◌⊎◌, inl, inr, ⊎_elim}
use mathlib.Core.Bool.{Bool, true, false, cond, false≢true}
use mathlib.Core.List.{List}
use Prim.Native.Nat.{ℕ, ◌+◌, ◌*◌, ◌%◌, ◌≤◌, ◌<◌}
use native.Mathlib.Omega.{arith}
use lib.Dec.{eqb}
use lib.ListN.{get_or}
use lib.Seq.{get_or-set_same, get_or-set_other}
use borrow.Author.Tests.{eqb-true, eqb-false}
use Rattle.lent.specs.Numbers.{Bytes}
use Rattle.lent.specs.Zeros.{with_zeros}
use Rattle.lent.proofs.Cases.{lt_or_le}
use Rattle.lent.proofs.Numbers.{number_agree}
use Rattle.lent.proofs.Zeros.{length_zeros, bytes_zeros, zeros_there, zeros_apart}
use Rattle.bits.specs.Bits.{bit_of}
use Rattle.bits.proofs.Bits.{bit_none}
use Rattle.meaning.proofs.Truth.{untrue}
use Rattle.tables.specs.Layout.{room_for_pieces}
use Rattle.running.specs.Waiting.{slots, some_below}
use Rattle.running.specs.Layout.{flag_at, closing_at, slot_length}
use Rattle.running.specs.Reads.{WholeRunning, flag_in, closing_place_in, slot_at, bit_at, waits_in}
use Rattle.running.specs.Held.{Flagged}
use Rattle.running.proofs.Below.{some_below_iff, some_below_same}
use Rattle.window.specs.Opening.{slot_emptied}
use Rattle.window.specs.Places.{size_number, Elsewhere}
use Rattle.window.proofs.WaitingRead.{bytes_set}

module _ (m : List ℕ) (s : ℕ) (whole : WholeRunning m) (slot : s < slots) where
  pub bytes_emptied : Bytes m → Bytes (slot_emptied m s)
  unfolding slot_emptied
  bytes_emptied bytes = bytes_set (with_zeros m (slot_at s) slot_length) (flag_at + s) 0 (omega arith) (bytes_zeros m (slot_at s) slot_length bytes)

  -- A byte in the slot.
  inside : (i : ℕ) → slot_at s ≤ i → i < slot_at s + slot_length → get_or (slot_emptied m s) i 0 ≡ 0
  unfolding slot_emptied
  inside i from to =
      get_or-set_other (with_zeros m (slot_at s) slot_length) (flag_at + s) i 0 0 (λ e. omega arith)
      ∙ zeros_there m (slot_at s) slot_length (omega arith) i from to

  -- A byte that is neither the slot's flag nor in the slot.
  byte_emptied : (i : ℕ) → (i ≡ flag_at + s → ⊥) → (i < slot_at s) ⊎ (slot_at s + slot_length ≤ i) → get_or (slot_emptied m s) i 0 ≡ get_or m i 0
  unfolding slot_emptied
  byte_emptied i flag apart = get_or-set_other (with_zeros m (slot_at s) slot_length) (flag_at + s) i 0 0 flag ∙ zeros_apart m (slot_at s) slot_length i apart

  pub elsewhere_emptied : (i : ℕ) → Elsewhere i → get_or (slot_emptied m s) i 0 ≡ get_or m i 0
  elsewhere_emptied i there = ⊎_elim
      (λ (l : i < flag_at). byte_emptied i (λ e. omega arith) (inl (omega arith)))
      (λ (l : size_number ≤ i). byte_emptied i (λ e. omega arith) (inr (omega arith)))
      there

  pub closing_emptied : (p : ℕ) → p < room_for_pieces → closing_place_in (slot_emptied m s) p ≡ closing_place_in m p
  closing_emptied p room =
      number_agree 8 (slot_emptied m s) m (closing_at + 8 * p) (λ i from to. byte_emptied i (λ e. omega arith) (inl (omega arith)))

  pub waits_emptied : (q p : ℕ) → q < slots → p < room_for_pieces → waits_in (slot_emptied m s) q p ≡ cond (eqb q s) false (waits_in m q p)
  unfolding waits_in
  waits_emptied q p hq hp = go (eqb q s) refl
    where
      go : (v : Bool) → eqb q s ≡ v → waits_in (slot_emptied m s) q p ≡ cond v false (waits_in m q p)
      go true e =
          let z : q ≡ s = eqb-true q s e in
          ap (λ (y : ℕ). bit_of y (p % 8)) (inside (bit_at q p) (omega arith) (omega arith)) ∙ bit_none (p % 8)
      go false e =
          let d : q ≡ s → ⊥ = eqb-false q s e in
          ap (λ (y : ℕ). bit_of y (p % 8)) (byte_emptied (bit_at q p) (λ z. omega arith)
          (⊎_elim (λ (l : q < s). inl (omega arith)) (λ (l : s ≤ q). inr (omega arith)) (lt_or_le q s)))

  flag_emptied : (q : ℕ) → q < slots → flag_in (slot_emptied m s) q ≡ cond (eqb q s) 0 (flag_in m q)
  unfolding slot_emptied
  flag_emptied q hq = go (eqb q s) refl
    where
      go : (v : Bool) → eqb q s ≡ v → flag_in (slot_emptied m s) q ≡ cond v 0 (flag_in m q)
      go true e =
          let z : q ≡ s = eqb-true q s e in
          rw z (get_or-set_same (with_zeros m (slot_at s) slot_length) (flag_at + s) 0 0 (rw (length_zeros m (slot_at s) slot_length) (omega arith)))
      go false e =
          let d : q ≡ s → ⊥ = eqb-false q s e in
          byte_emptied (flag_at + q) (λ z. d (omega arith)) (inl (omega arith))

  pub flags_emptied : Flagged m → Flagged (slot_emptied m s)
  unfolding Flagged
  flags_emptied flags q hq = flag_emptied q hq ∙ go (eqb q s) refl
    where
      go : (v : Bool) → eqb q s ≡ v → cond v 0 (flag_in m q) ≡ cond (some_below (waits_in (slot_emptied m s) q) room_for_pieces) 128 0
      go true e = sym (ap (λ v. cond v 128 0) (untrue (some_below (waits_in (slot_emptied m s) q) room_for_pieces) (λ u.
          let r = (some_below_iff (waits_in (slot_emptied m s) q) room_for_pieces).0 u in
          false≢true (sym (waits_emptied q r.0 hq r.1 ∙ ap (λ v. cond v false (waits_in m q r.0)) e) ∙ r.2))))
      go false e = flags q hq ∙ ap (λ v. cond v 128 0) (some_below_same (waits_in m q) (waits_in (slot_emptied m s) q) room_for_pieces
          (λ p hp. sym (waits_emptied q p hq hp ∙ ap (λ v. cond v false (waits_in m q p)) e)))
