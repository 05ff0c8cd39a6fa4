-- The bits of a number are those of its bytes, so a slot may be read by words of 8 bytes: where a word has no further bit, the search
-- goes on with the next word. Assumes nothing.
use mathlib.Core.Path.{◌≡◌, sym, ap, ap₂, ◌∙◌}
use mathlib.Core.Logic.{⊎_elim}
use mathlib.Core.Bool.{false}
use mathlib.Core.List.{List}
use Prim.Native.Nat.{ℕ, zero, suc, ◌+◌, ◌-◌, ◌*◌, ◌/◌, ◌%◌, ◌≤◌, ◌<◌}
use native.Mathlib.Omega.{arith}
use lib.ListN.{get_or}
use Rattle.lent.specs.Numbers.{Bytes, bytes_at, low_first, number_at}
use Rattle.lent.proofs.Cases.{lt_or_le}
use Rattle.bits.specs.Bits.{bit_of, First}
use Rattle.bits.proofs.Bits.{bit_low, bit_high}
use Rattle.tables.specs.Layout.{room_for_pieces}
use Rattle.running.specs.Layout.{ring_at, slot_length}
use Rattle.running.specs.Reads.{waits_in}

-- Bit j of a number in lent bytes is a bit of the byte that it lies in.
pub bit_number : (n : ℕ) (s : List ℕ) (i j : ℕ) → Bytes s → j < 8 * n → bit_of (number_at n s i) j ≡ bit_of (get_or s (i + j / 8) 0) (j % 8)
unfolding number_at bytes_at low_first
bit_number zero s i j bytes small = absurd (omega arith)
bit_number (suc n) s i j bytes small = ⊎_elim
    (λ (low : j < 8).
    let e : i ≡ i + j / 8 = omega arith in
    let f : j ≡ j % 8 = omega arith in
    bit_low 8 j (get_or s i 0) (number_at n s (i + 1)) low ∙ ap₂ (λ (a b : ℕ). bit_of (get_or s a 0) b) e f)
    (λ (high : 8 ≤ j).
    let back : j ≡ 8 + (j - 8) = omega arith in
    let e : i + 1 + (j - 8) / 8 ≡ i + j / 8 = omega arith in
    let f : (j - 8) % 8 ≡ j % 8 = omega arith in
    ap (bit_of (get_or s i 0 + 256 * number_at n s (i + 1))) back
    ∙ bit_high 8 (j - 8) (get_or s i 0) (number_at n s (i + 1)) (bytes i)
    ∙ bit_number n s (i + 1) (j - 8) bytes (omega arith)
    ∙ ap₂ (λ (a b : ℕ). bit_of (get_or s a 0) b) e f)
    (lt_or_le j 8)

-- Where the search for the first piece from p on that waits in slot q stands: at bit j of a word, and none before it waits.
pub record Searching (m : List ℕ) (q p word j : ℕ) : Type 0 where
  pub reached : p ≤ 64 * word + j
  pub within : 64 * word + j ≤ room_for_pieces
  pub inside : j < 64
  pub passed : (k : ℕ) → p ≤ k → k < 64 * word + j → waits_in m q k ≡ false

module _ (m : List ℕ) (bytes : Bytes m) (q : ℕ) where
  -- Bit j of a word of slot q is that of a piece.
  pub word_waits : (word j : ℕ) → j < 64 → bit_of (number_at 8 m (ring_at + slot_length * q + 8 * word)) j ≡ waits_in m q (64 * word + j)
  unfolding waits_in
  word_waits word j small =
      let e : ring_at + slot_length * q + 8 * word + j / 8 ≡ ring_at + slot_length * q + (64 * word + j) / 8 = omega arith in
      let f : j % 8 ≡ (64 * word + j) % 8 = omega arith in
      bit_number 8 m (ring_at + slot_length * q + 8 * word) j bytes (omega arith) ∙ ap₂ (λ (a b : ℕ). bit_of (get_or m a 0) b) e f

  pub searching_start : (p : ℕ) → p ≤ room_for_pieces → Searching m q p (p / 64) (p % 64)
  searching_start p small = record {
    reached = omega arith;
    within = omega arith;
    inside = omega arith;
    passed = λ k from below. absurd (omega arith);
  }

  module _ (p word j : ℕ) (searching : Searching m q p word j) where
    pub searching_end : 4 ≤ word → First (waits_in m q) room_for_pieces p room_for_pieces
    searching_end last = record {
      reached = omega (arith, searching.reached, searching.within);
      within = omega arith;
      passed = λ k from below. searching.passed k from (omega (arith, searching.within));
      found = λ l. absurd (omega arith);
    }

    module _ (r : ℕ) (first : First (bit_of (number_at 8 m (ring_at + slot_length * q + 8 * word))) 64 j r) where
      -- In this word none waits before bit r, and none did before.
      none_before : (k : ℕ) → p ≤ k → k < 64 * word + r → waits_in m q k ≡ false
      none_before k from below = ⊎_elim
          (λ (l : k < 64 * word + j). searching.passed k from l)
          (λ (l : 64 * word + j ≤ k).
          let e : 64 * word + (k - 64 * word) ≡ k = omega arith in
          ap (waits_in m q) (sym e)
          ∙ sym (word_waits word (k - 64 * word) (omega (arith, first.within)))
          ∙ first.passed (k - 64 * word) (omega arith) (omega arith))
          (lt_or_le k (64 * word + j))

      pub searching_found : word < 4 → r < 64 → First (waits_in m q) room_for_pieces p (64 * word + r)
      searching_found some small = record {
        reached = omega (arith, searching.reached, first.reached);
        within = omega arith;
        passed = none_before;
        found = λ l. sym (word_waits word r small) ∙ first.found small;
      }

      pub searching_on : word < 4 → 64 ≤ r → Searching m q p (word + 1) 0
      searching_on some past = record {
        reached = omega (arith, searching.reached, first.reached);
        within = omega arith;
        inside = omega arith;
        passed = λ k from below. none_before k from (omega arith);
      }
