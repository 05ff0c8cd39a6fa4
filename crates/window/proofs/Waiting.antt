-- A window that waits changes one byte of the ring and one flag, so the memory keeps its length.
-- Assumes nothing.
use mathlib.Core.Path.{◌≡◌}
use mathlib.Core.List.{List}
use Prim.Native.Nat.{ℕ, ◌+◌, ◌%◌}
use lib.ListN.{length, get_or, set, length-set}
use Rattle.bits.specs.Bits.{set_bit}
use Rattle.running.specs.Layout.{flag_at}
use Rattle.running.specs.Reads.{bit_at}
use Rattle.window.specs.Waiting.{flagged, slot_from, with_waiting, with_waiting_from}

pub length_waiting : (m : List ℕ) (q p : ℕ) → length (with_waiting m q p) ≡ length m
unfolding with_waiting
length_waiting m q p = simp length-set

pub length_waiting_from : (t m : List ℕ) (p place : ℕ) → length (with_waiting_from t m p place) ≡ length m
unfolding with_waiting_from
length_waiting_from t m p place = length_waiting m (slot_from t p place) p

-- The two stores of a piece in the slot in which it waits, the byte x with its bit and the flag.
pub waiting_stored : (t m : List ℕ) (p place q x : ℕ) → q ≡ slot_from t p place → x ≡ set_bit (get_or m (bit_at q p) 0) (p % 8)
    → set (set m (bit_at q p) x) (flag_at + q) flagged ≡ with_waiting_from t m p place
unfolding with_waiting with_waiting_from
waiting_stored t m p place q x e f = rw (f, e)
