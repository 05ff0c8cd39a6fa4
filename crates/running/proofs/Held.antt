-- Memory laid out as the book's after x is memory from which the book's is read: the fields are the regions' numbers, and a byte of
-- the ring is its eight bits.
-- Assumes nothing.
use mathlib.Core.Path.{◌≡◌, refl, sym, ap, ap₂, ◌∙◌}
use mathlib.Core.Bool.{true, cond}
use mathlib.Core.List.{List, [], ◌∷◌}
use Prim.Native.Nat.{ℕ, ◌+◌, ◌*◌, ◌/◌, ◌%◌, ◌<◌}
use native.Mathlib.Nat.{add-zero}
use native.Mathlib.Omega.{arith}
use lib.ListN.{get_or}
use Rattle.lent.specs.Numbers.{Bytes, number_at}
use Rattle.bits.specs.Bits.{bit_of}
use Rattle.meaning.specs.Books.{Book}
use Rattle.tables.specs.Regions.{entry_length, HoldsParts, HoldsRegion, Laid, tiled}
use Rattle.tables.specs.Spots.{spot_count}
use Rattle.tables.specs.Layout.{always, up_to, number, region, room_for_pieces}
use Rattle.tables.proofs.Once.{Agree, laid_once}
use Rattle.tables.proofs.Parts.{number_one, field_at}
use Rattle.running.specs.Waiting.{slots, waits}
use Rattle.running.specs.Layout.{running_size, tag_at, state_at, spare_at, place_at, mark_at, flag_at, closing_at, ring_at, slot_length}
use Rattle.running.specs.Layout.{flag_of, closing_in, ring_of, running_layout}
use Rattle.running.specs.Reads.{flag_in, bit_at, waits_in}
use Rattle.running.specs.Held.{Flagged, Held}
use Rattle.running.proofs.Below.{some_below_same}
use Rattle.running.proofs.Bits.{bit_of_lem, bits_of}

-- The regions leave no byte out.
pub running_tiled : (book : Book) (x : List ℕ) → tiled (running_layout book x) 0 running_size ≡ true
unfolding tiled running_layout running_size
running_tiled book x = refl

module _ (book : Book) (x m : List ℕ) where
  module _ (laid : Laid (running_layout book x) m) where
    waits_laid : (q p : ℕ) → q < slots → p < room_for_pieces → waits_in m q p ≡ waits book x q p
    unfolding running_layout entry_length waits_in ring_of
    waits_laid q p s r =
        let byte : get_or m (bit_at q p) 0 ≡ ring_of book x (slot_length * q + p / 8) =
        sym (number_one m (bit_at q p)) ∙ field_at m (running_layout book x) laid 7 0 (slot_length * q + p / 8) (omega arith) (bit_at q p) (omega arith) in
        let slot : (slot_length * q + p / 8) / slot_length ≡ q = omega arith in
        let piece : 8 * ((slot_length * q + p / 8) % slot_length) + p % 8 ≡ p = omega arith in
        ap (λ (y : ℕ). bit_of y (p % 8)) byte
        ∙ bit_of_lem 8 (λ j. waits book x ((slot_length * q + p / 8) / slot_length) (8 * ((slot_length * q + p / 8) % slot_length) + j)) (p % 8) (omega arith)
        ∙ ap₂ (waits book x) slot piece

    flag_laid : Flagged m
    unfolding running_layout entry_length flag_of Flagged
    flag_laid q s =
        sym (number_one m (flag_at + q)) ∙ field_at m (running_layout book x) laid 5 0 q (omega arith) (flag_at + q) (omega arith)
        ∙ ap (λ v. cond v 128 0) (sym (some_below_same (waits_in m q) (waits book x q) room_for_pieces (λ p r. waits_laid q p s r)))

    -- What is read from memory laid out as the book's after x.
    pub laid_held : Held book x m
    unfolding running_layout entry_length always
    laid_held = record {
      tag = field_at m (running_layout book x) laid 0 0 0 (omega arith) tag_at (omega arith);
      state = field_at m (running_layout book x) laid 1 0 0 (omega arith) state_at (omega arith);
      spare = field_at m (running_layout book x) laid 2 0 0 (omega arith) spare_at (omega arith);
      place = field_at m (running_layout book x) laid 3 0 0 (omega arith) place_at (omega arith);
      mark = field_at m (running_layout book x) laid 4 0 0 (omega arith) mark_at (omega arith);
      windows = record {
        flags = flag_laid;
        kept = record {
          close = λ p r. field_at m (running_layout book x) laid 6 0 p r (closing_at + 8 * p) (omega arith);
          wait = waits_laid;
        };
      };
    }

  -- A region whose entries have one part holds where each entry's number is the one given.
  each : (offset entries width : ℕ) (value : ℕ → ℕ) → ((j : ℕ) → j < entries → number_at width m (offset + width * j) ≡ value j)
      → HoldsRegion m (region offset entries (number width value ∷ []))
  unfolding HoldsRegion HoldsParts entry_length
  each offset entries width value h j l = (rw add-zero (h j l), tt)

  only : (offset width n : ℕ) → number_at width m offset ≡ n → HoldsRegion m (region offset 1 (number width (always n) ∷ []))
  unfolding always
  only offset width n h = each offset 1 width (always n) (λ j l. let first : offset + width * j ≡ offset = (let z : j ≡ 0 = omega arith in rw z (omega arith)) in rw first h)

  module _ (bytes : Bytes m) (held : Held book x m) where
    ring_held : (k : ℕ) → k < slots * slot_length → get_or m (ring_at + k) 0 ≡ ring_of book x k
    unfolding ring_of waits_in
    ring_held k l = bits_of 8 (get_or m (ring_at + k) 0) (λ j. waits book x (k / slot_length) (8 * (k % slot_length) + j)) (bytes (ring_at + k)) bit
      where
        bit : (j : ℕ) → j < 8 → bit_of (get_or m (ring_at + k) 0) j ≡ waits book x (k / slot_length) (8 * (k % slot_length) + j)
        bit j h =
            let place : bit_at (k / slot_length) (8 * (k % slot_length) + j) ≡ ring_at + k = omega arith in
            let which : (8 * (k % slot_length) + j) % 8 ≡ j = omega arith in
            sym (ap₂ (λ (i b : ℕ). bit_of (get_or m i 0) b) place which) ∙ held.windows.kept.wait (k / slot_length) (8 * (k % slot_length) + j) (omega arith) (omega arith)

    flag_held : (q : ℕ) → q < slots → flag_in m q ≡ flag_of book x q
    unfolding flag_of Flagged
    flag_held q s = held.windows.flags q s ∙ ap (λ v. cond v 128 0) (some_below_same (waits_in m q) (waits book x q) room_for_pieces (λ p r. held.windows.kept.wait q p s r))

    -- Memory of bytes from which the book's after x is read is laid out as it.
    pub held_laid : Laid (running_layout book x) m
    unfolding Laid running_layout
    held_laid = (
      only tag_at 8 _ held.tag,
      (
        only state_at 2 _ held.state,
        (
          only spare_at 6 _ held.spare,
          (
            only place_at 8 _ held.place,
            (
              only mark_at 8 _ held.mark,
              (
                each flag_at slots 1 (flag_of book x) (λ q s. let z : flag_at + 1 * q ≡ flag_at + q = omega arith in rw z (number_one m (flag_at + q) ∙ flag_held q s)),
                (
                  each closing_at room_for_pieces 8 (up_to (spot_count book) (closing_in book x)) (λ p r. held.windows.kept.close p r),
                  (
                    each ring_at (slots * slot_length) 1 (ring_of book x) (λ k l. let z : ring_at + 1 * k ≡ ring_at + k = omega arith in rw z (number_one m (ring_at + k) ∙ ring_held k l)),
                    tt,
                  ),
                ),
              ),
            ),
          ),
        ),
      ),
    )

-- So two memories of bytes that are the book's after x agree in every byte below the published size.
pub running_once : (book : Book) (x m n : List ℕ) → Bytes m → Bytes n → Laid (running_layout book x) m → Laid (running_layout book x) n → Agree m n 0 running_size
running_once book x m n bytes also first second = laid_once m n bytes also (running_layout book x) running_size (running_tiled book x) first second
