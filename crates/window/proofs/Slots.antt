-- Once the slot of a place is opened, its pieces have windows that opened there and nothing waits in it: a slot without its flag was empty,
-- and of another the windows open and the slot is emptied.
-- Assumes nothing.
use mathlib.Core.Path.{◌≡◌, refl, sym, ap, ◌∙◌}
use mathlib.Core.Logic.{inl, inr, ⊎_elim}
use mathlib.Core.Bool.{Bool, true, false, cond, ◌&&◌}
use mathlib.Core.List.{List}
use Prim.Native.Nat.{ℕ, ◌+◌, ◌%◌, ◌≤◌, ◌<◌}
use native.Mathlib.Omega.{arith}
use lib.Dec.{eqb}
use lib.ListN.{get_or}
use borrow.Author.Tests.{eqb-true, eqb-false, lt-ltb}
use Rattle.lent.specs.Numbers.{Bytes}
use Rattle.meaning.proofs.Truth.{untrue}
use Rattle.tables.specs.Layout.{room_for_pieces}
use Rattle.tables.specs.Reads.{span_in}
use Rattle.running.specs.Waiting.{slots, some_below}
use Rattle.running.specs.Layout.{flag_at}
use Rattle.running.specs.Reads.{WholeRunning, flag_in, closing_place_in, waits_in}
use Rattle.running.specs.Held.{Flagged}
use Rattle.running.proofs.Below.{some_below_iff, some_below_same}
use Rattle.window.specs.Opening.{closes_after, windows_opened, slot_emptied, slot_opened}
use Rattle.window.proofs.Opening.{length_windows, windows_apart, windows_wait, slot_quiet, slot_due}
use Rattle.window.specs.Places.{size_number, Elsewhere}
use Rattle.window.proofs.OpeningRead.{bytes_opened, closing_opened}
use Rattle.window.proofs.Emptying.{bytes_emptied, elsewhere_emptied, closing_emptied, waits_emptied, flags_emptied}

-- In a slot without its flag no piece waits.
none_waits : (m : List ℕ) → Flagged m → (q p : ℕ) → q < slots → p < room_for_pieces → flag_in m q ≡ 0 → waits_in m q p ≡ false
unfolding Flagged
none_waits m flags q p slot piece none = untrue (waits_in m q p) (λ u.
    let some : some_below (waits_in m q) room_for_pieces ≡ true = (some_below_iff (waits_in m q) room_for_pieces).1 (p, piece, u) in
    let flag : flag_in m q ≡ 128 = flags q slot ∙ ap (λ v. cond v 128 0) some in
    omega arith)

module _ (t m : List ℕ) (place : ℕ) where
  abbrev here : ℕ
  here = place % slots

  -- The memory once the windows have opened, and the slot is not emptied yet.
  abbrev renewed : List ℕ
  renewed = windows_opened t place (waits_in m here) m room_for_pieces

  -- What holds in both cases holds of the opened slot.
  either : (P : List ℕ → Type 0) → (flag_in m here ≡ 0 → P m) → P (slot_emptied renewed here) → P (slot_opened t m place)
  either P none some = go (eqb (flag_in m here) 0) refl
    where
      go : (v : Bool) → eqb (flag_in m here) 0 ≡ v → P (slot_opened t m place)
      go true e = let z : flag_in m here ≡ 0 = eqb-true (flag_in m here) 0 e in rw (slot_quiet t m place z) (none z)
      go false e = rw (slot_due t m place (eqb-false (flag_in m here) 0 e)) some

  module _ (whole : WholeRunning m) where
    whole_renewed : WholeRunning renewed
    whole_renewed = rw (length_windows t place (waits_in m here) m room_for_pieces) whole

    pub bytes_slot : Bytes m → Bytes (slot_opened t m place)
    bytes_slot bytes = either Bytes (λ z. bytes) (bytes_emptied renewed here whole_renewed (omega arith) (bytes_opened t place (waits_in m here) m room_for_pieces bytes))

    pub byte_slot : (i : ℕ) → Elsewhere i → get_or (slot_opened t m place) i 0 ≡ get_or m i 0
    byte_slot i there = either (λ n. get_or n i 0 ≡ get_or m i 0) (λ z. refl)
        (elsewhere_emptied renewed here whole_renewed (omega arith) i there
        ∙ windows_apart t place (waits_in m here) m room_for_pieces (omega arith) i (⊎_elim (λ (l : i < flag_at). inl (omega arith)) (λ (l : size_number ≤ i). inr (omega arith)) there))

    -- ── What the windows come to ──

    flags_renewed : Flagged m → Flagged renewed
    unfolding Flagged
    flags_renewed flags q slot =
        windows_apart t place (waits_in m here) m room_for_pieces (omega arith) (flag_at + q) (inl (omega arith))
        ∙ flags q slot ∙ ap (λ v. cond v 128 0) (some_below_same (waits_in m q) (waits_in renewed q) room_for_pieces (λ p piece. sym (windows_wait t place (waits_in m here) m room_for_pieces (omega arith) q p)))

    module _ (flags : Flagged m) where
      pub flags_slot : Flagged (slot_opened t m place)
      flags_slot = either Flagged (λ z. flags) (flags_emptied renewed here whole_renewed (omega arith) (flags_renewed flags))

      pub waits_slot : (q p : ℕ) → q < slots → p < room_for_pieces → waits_in (slot_opened t m place) q p ≡ cond (eqb q here) false (waits_in m q p)
      waits_slot q p slot piece = either (λ n. waits_in n q p ≡ cond (eqb q here) false (waits_in m q p)) (λ z. empty z (eqb q here) refl)
          (waits_emptied renewed here whole_renewed (omega arith) q p slot piece ∙ ap (cond (eqb q here) false) (windows_wait t place (waits_in m here) m room_for_pieces (omega arith) q p))
        where
          empty : flag_in m here ≡ 0 → (v : Bool) → eqb q here ≡ v → waits_in m q p ≡ cond v false (waits_in m q p)
          empty z true e = let y : q ≡ here = eqb-true q here e in rw y (none_waits m flags here p (omega arith) piece z)
          empty z false e = refl

      pub closing_slot : Bytes t → place < 4294967296 → (p : ℕ) → p < room_for_pieces
          → closing_place_in (slot_opened t m place) p ≡ cond (waits_in m here p) (closes_after (span_in t p) place) (closing_place_in m p)
      closing_slot bytes early p piece = either (λ n. closing_place_in n p ≡ cond (waits_in m here p) (closes_after (span_in t p) place) (closing_place_in m p))
          (λ z. sym (ap (λ v. cond v (closes_after (span_in t p) place) (closing_place_in m p)) (none_waits m flags here p (omega arith) piece z)))
          (closing_emptied renewed here whole_renewed (omega arith) p piece
          ∙ closing_opened t place (waits_in m here) bytes early m whole room_for_pieces (omega arith) p piece
          ∙ ap (λ v. cond (v && waits_in m here p) (closes_after (span_in t p) place) (closing_place_in m p)) (lt-ltb p room_for_pieces piece))
