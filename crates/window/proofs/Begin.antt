-- Memory that was zeroed has no window, and each first piece set to wait adds its own: so the windows are the book's before the first byte.
-- Assumes nothing.
use mathlib.Core.Path.{◌≡◌, refl, sym, ap, ◌∙◌}
use mathlib.Core.Logic.{◌⊎◌, inl, inr, ⊎_elim}
use mathlib.Core.Bool.{Bool, true, false, cond, ◌&&◌, ◌||◌, and-false, or-false, false≢true}
use mathlib.Core.List.{List, []}
use Prim.Native.Nat.{ℕ, zero, suc, ◌+◌, ◌*◌, ◌%◌, ◌≤◌, ◌<◌}
use native.Mathlib.Omega.{arith}
use lib.Dec.{ltb, eqb}
use lib.ListN.{get_or}
use borrow.Author.Tests.{eq-eqb, ne_eqb, lt-ltb, le-ltb}
use Rattle.lent.proofs.Zeros.{bytes_zeros, zeros_there, zeros_apart}
use Rattle.lent.specs.Numbers.{Bytes}
use Rattle.lent.proofs.Cases.{lt_or_le, eq_or_ne}
use Rattle.bits.specs.Bits.{bit_of}
use Rattle.bits.proofs.Bits.{bit_none}
use Rattle.meaning.specs.Books.{Book}
use Rattle.meaning.specs.Windows.{delay, opens_at}
use Rattle.meaning.proofs.Truth.{untrue}
use Rattle.format.specs.Limits.{Within}
use Rattle.tables.specs.Regions.{Laid}
use Rattle.tables.specs.Spots.{none_left, spot_at, spot_count}
use Rattle.tables.specs.Layout.{room_for_pieces, tables_layout}
use Rattle.tables.specs.Reads.{first_in}
use Rattle.tables.proofs.Parts.{number_zero}
use Rattle.tables.proofs.Fits.{fits}
use Rattle.tables.proofs.Fields.{piece_count_laid}
use Rattle.running.specs.Waiting.{slots, slot_for, some_below}
use Rattle.running.specs.Layout.{running_size, flag_at, closing_at}
use Rattle.running.specs.Reads.{WholeRunning, bit_at, waits_in}
use Rattle.running.specs.Kept.{waiting_first}
use Rattle.running.specs.Held.{Flagged, Windows}
use Rattle.running.proofs.Below.{some_below_iff}
use Rattle.running.proofs.Begin.{kept_begin}
use Rattle.window.specs.Waiting.{slot_from, with_waiting, with_waiting_from}
use Rattle.window.specs.Begun.{waiting_if_first, firsts_waiting, cleared, windows_begun}
use Rattle.window.proofs.Waiting.{length_waiting}
use Rattle.window.proofs.Begun.{length_cleared}
use Rattle.window.specs.Places.{size_number}
use Rattle.window.specs.Starting.{starts_in, Starting}
use Rattle.window.proofs.WaitingRead.{closing_waiting, waits_waiting, flags_waiting, byte_waiting, bytes_waiting}
use Rattle.window.proofs.OpeningRead.{ltb_further}
use Rattle.window.proofs.Tables.{delay_spot, first_spot}

-- ── Zeroed memory ──

module _ (t m : List ℕ) (whole : WholeRunning m) (zeros : (i : ℕ) → i < size_number → get_or m i 0 ≡ 0) where
  none_waiting : (q p : ℕ) → q < slots → p < room_for_pieces → waits_in m q p ≡ false
  unfolding waits_in
  none_waiting q p slot piece = ap (λ (y : ℕ). bit_of y (p % 8)) (zeros (bit_at q p) (omega arith)) ∙ bit_none (p % 8)

  pub starting_zero : Starting t 0 m m
  unfolding starts_in Flagged
  starting_zero = record {
    whole = whole;
    closes = λ p piece. number_zero 8 m (closing_at + 8 * p) (λ k from to. zeros k (omega arith));
    waiting = λ q p slot piece. none_waiting q p slot piece ∙ sym (ap (λ v. v && (first_in t p && eqb q (slot_from t p 0))) (le-ltb p 0 (omega arith)));
    flags = λ q slot. zeros (flag_at + q) (omega arith) ∙ sym (ap (λ v. cond v 128 0) (untrue (some_below (waits_in m q) room_for_pieces)
        (λ u. let r = (some_below_iff (waits_in m q) room_for_pieces).0 u in false≢true (sym (none_waiting q r.0 slot r.1) ∙ r.2))));
    elsewhere = λ i there. refl;
    bytes = λ h. h;
  }

-- ── One first piece after the other ──

module _ (t : List ℕ) where
  abbrev slot : ℕ → ℕ
  slot p = slot_from t p 0

  -- One piece more: the last one, or one of those before it.
  starts_further : (p q g : ℕ) → starts_in t (suc p) q g ≡ starts_in t p q g || (eqb g p && (first_in t p && eqb q (slot p)))
  unfolding starts_in
  starts_further p q g = ⊎_elim
      (λ (e : g ≡ p). rw (e, lt-ltb p (suc p) (omega arith), le-ltb p p (omega arith), eq-eqb p p refl))
      (λ (d : g ≡ p → ⊥). rw (ltb_further g p d, ne_eqb g p d) (sym (or-false (ltb g p && (first_in t g && eqb q (slot g))))))
      (eq_or_ne g p)

  starting_next : (p : ℕ) (zeroed m : List ℕ) → p < room_for_pieces → Starting t p zeroed m → Starting t (suc p) zeroed (waiting_if_first t m p)
  unfolding waiting_if_first with_waiting_from
  starting_next p zeroed m piece before = go (first_in t p) refl
    where
      go : (v : Bool) → first_in t p ≡ v → Starting t (suc p) zeroed (cond v (with_waiting m (slot p) p) m)
      go true e = record {
        whole = rw (length_waiting m (slot p) p) before.whole;
        closes = λ g room. closing_waiting m (slot p) p before.whole (omega arith) piece g room ∙ before.closes g room;
        waiting = λ q g hq hg. waits_waiting m (slot p) p before.whole (omega arith) piece q g hq hg
            ∙ ap (λ v. v || (eqb g p && eqb q (slot p))) (before.waiting q g hq hg)
            ∙ sym (starts_further p q g ∙ ap (λ v. starts_in t p q g || (eqb g p && (v && eqb q (slot p)))) e);
        flags = flags_waiting m (slot p) p before.whole (omega arith) piece before.flags;
        elsewhere = λ i there. byte_waiting m (slot p) p before.whole (omega arith) piece i there ∙ before.elsewhere i there;
        bytes = λ h. bytes_waiting m (slot p) p (before.bytes h);
      }
      go false e = record {
        whole = before.whole;
        closes = before.closes;
        waiting = λ q g hq hg. before.waiting q g hq hg
            ∙ sym (starts_further p q g ∙ ap (λ v. starts_in t p q g || (eqb g p && (v && eqb q (slot p)))) e
            ∙ ap (λ v. starts_in t p q g || v) (and-false (eqb g p)) ∙ or-false (starts_in t p q g));
        flags = before.flags;
        elsewhere = before.elsewhere;
        bytes = before.bytes;
      }

  starting_all : (n : ℕ) (zeroed : List ℕ) → n ≤ room_for_pieces → Starting t 0 zeroed zeroed → Starting t n zeroed (firsts_waiting t zeroed n)
  unfolding firsts_waiting
  starting_all zero zeroed room start = start
  starting_all (suc p) zeroed room start = starting_next p zeroed (firsts_waiting t zeroed p) (omega arith) (starting_all p zeroed (omega arith) start)

-- ── Before the first byte ──

module _ (book : Book) (limits : Within book) (t : List ℕ) (laid : Laid (tables_layout book) t) (m : List ℕ) (whole : WholeRunning m) where
  zeroed : List ℕ
  zeroed = cleared m

  begun : Starting t (spot_count book) zeroed (windows_begun t m)
  unfolding windows_begun zeroed running_size
  begun =
      rw (piece_count_laid book limits t laid)
      (starting_all t (spot_count book) zeroed (fits book limits).pieces
      (starting_zero t zeroed (rw (length_cleared m) whole) (λ i below. zeros_there m 0 size_number (omega arith) i (omega arith) (omega arith))))

  starts_first : (q p : ℕ) → starts_in t (spot_count book) q p ≡ waiting_first book q p
  unfolding starts_in waiting_first slot_for opens_at
  starts_first q p = go (lt_or_le p (spot_count book))
    where
      go : (p < spot_count book) ⊎ (spot_count book ≤ p)
          → ltb p (spot_count book) && (first_in t p && eqb q (slot_from t p 0))
          ≡ ltb p (spot_count book) && (none_left (spot_at book p).before && eqb q ((0 + delay (spot_at book p).piece) % slots))
      go (inl real) = rw (first_spot book limits t laid p real, delay_spot book limits t laid p real)
      go (inr none) = rw (le-ltb p (spot_count book) none)

  -- The windows are the book's before the first byte.
  pub windows_begin : Windows book [] (windows_begun t m)
  windows_begin = record {
    flags = begun.flags;
    kept = record {
      close = λ p room. begun.closes p room ∙ (kept_begin book limits).close p room;
      wait = λ q p slot room. begun.waiting q p slot room ∙ starts_first q p ∙ (kept_begin book limits).wait q p slot room;
    };
  }

  -- The head is zero, and what lies past the published size is as it was.
  pub head_begin : (i : ℕ) → i < flag_at → get_or (windows_begun t m) i 0 ≡ 0
  unfolding zeroed running_size
  head_begin i below = begun.elsewhere i (inl below) ∙ zeros_there m 0 size_number (omega arith) i (omega arith) (omega arith)

  pub past_begin : (i : ℕ) → size_number ≤ i → get_or (windows_begun t m) i 0 ≡ get_or m i 0
  unfolding zeroed running_size
  past_begin i past = begun.elsewhere i (inr past) ∙ zeros_apart m 0 size_number i (inr (omega arith))

  pub bytes_begin : Bytes m → Bytes (windows_begun t m)
  unfolding zeroed
  bytes_begin h = begun.bytes (bytes_zeros m 0 running_size h)
