-- What is written into the head of running memory changes no window, so that with its numbers right all of the memory is the book's.
-- Assumes nothing.
use mathlib.Core.Path.{◌≡◌, sym, ap, ◌∙◌}
use mathlib.Core.Logic.{◌⊎◌, inl, inr, ⊎_elim}
use mathlib.Core.Bool.{cond}
use mathlib.Core.List.{List, []}
use Prim.Native.Nat.{ℕ, ◌+◌, ◌*◌, ◌%◌, ◌^◌, ◌≤◌, ◌<◌}
use native.Mathlib.Omega.{arith}
use lib.Dec.{lit<}
use lib.ListN.{length, get_or}
use Rattle.lent.specs.Numbers.{Bytes, number_at, with_number}
use Rattle.lent.proofs.Numbers.{length_with_number, number_written, number_byte_apart, number_apart, number_bytes_kept, number_below, number_agree}
use Rattle.bits.specs.Bits.{bit_of}
use Rattle.meaning.specs.Books.{Book}
use Rattle.meaning.specs.Automaton.{is_state, after}
use Rattle.meaning.proofs.States.{is_state_closed}
use Rattle.meaning.proofs.After.{after_state}
use Rattle.format.specs.Limits.{Within}
use Rattle.numbering.specs.States.{number_in}
use Rattle.numbering.proofs.Keywords.{within_bytes}
use Rattle.numbering.proofs.States.{number_below as number_inside, number_empty}
use Rattle.tables.specs.Regions.{Laid}
use Rattle.tables.specs.Layout.{room_for_pieces, tables_layout}
use Rattle.tables.specs.Layout as tables
use Rattle.tables.specs.Reads.{mark_in}
use Rattle.tables.proofs.Fits.{fits}
use Rattle.tables.proofs.Parts.{number_zero}
use Rattle.tables.proofs.Fields.{mark_laid}
use Rattle.running.specs.Layout.{running_layout, tag_at, state_at, spare_at, place_at, mark_at, flag_at, closing_at, running_tag}
use Rattle.running.specs.Reads.{WholeRunning, bit_at, waits_in}
use Rattle.running.specs.Held.{Flagged, Windows, Held}
use Rattle.running.proofs.Below.{some_below_same}
use Rattle.running.proofs.Held.{laid_held, held_laid}
use Rattle.window.specs.Begun.{windows_begun}
use Rattle.window.proofs.Begun.{length_begun}
use Rattle.tracking.specs.Head.{begun_with, moved_to}
use Rattle.window.proofs.Begin.{windows_begin, head_begin, bytes_begin}

-- ── Windows lie past the head ──

module _ (m n : List ℕ) (same : (i : ℕ) → flag_at ≤ i → get_or n i 0 ≡ get_or m i 0) where
  same_waits : (q p : ℕ) → waits_in n q p ≡ waits_in m q p
  unfolding waits_in
  same_waits q p = ap (λ (y : ℕ). bit_of y (p % 8)) (same (bit_at q p) (omega arith))

  -- Memory that differs in the head alone has the same windows.
  pub windows_same : (book : Book) (x : List ℕ) → Windows book x m → Windows book x n
  unfolding Flagged
  windows_same book x windows = record {
    flags = λ q slot. same (flag_at + q) (omega arith) ∙ windows.flags q slot
        ∙ ap (λ v. cond v 128 0) (some_below_same (waits_in m q) (waits_in n q) room_for_pieces (λ p piece. sym (same_waits q p)));
    kept = record {
      close = λ p piece. number_agree 8 n m (closing_at + 8 * p) (λ i from to. same i (omega arith)) ∙ windows.kept.close p piece;
      wait = λ q p slot piece. same_waits q p ∙ windows.kept.wait q p slot piece;
    };
  }

-- ── Before the first byte ──

module _ (book : Book) (limits : Within book) (t : List ℕ) (laid : Laid (tables_layout book) t) (tables_bytes : Bytes t)
    (m : List ℕ) (whole : WholeRunning m) (bytes : Bytes m) where
  abbrev begun : List ℕ
  begun = windows_begun t m

  abbrev marked : List ℕ
  marked = with_number 8 begun mark_at (mark_in t)

  -- A number of the head that is not written is zero.
  unwritten : (width at : ℕ) → 8 ≤ at → at + width ≤ mark_at → number_at width (begun_with t m) at ≡ 0
  unfolding begun_with
  unwritten width at from to =
      number_apart width 8 marked tag_at running_tag at (inr (omega arith))
      ∙ number_apart width 8 begun mark_at (mark_in t) at (inl (omega arith))
      ∙ number_zero width begun at (λ i a b. head_begin book limits t laid m whole i (omega arith))

  -- The memory that begin leaves is the book's before the first byte.
  pub laid_begin : Laid (running_layout book []) (begun_with t m)
  unfolding begun_with running_tag after
  laid_begin = held_laid book [] (begun_with t m)
      (number_bytes_kept 8 marked tag_at running_tag (number_bytes_kept 8 begun mark_at (mark_in t) (bytes_begin book limits t laid m whole bytes)))
      (record {
        tag = number_written 8 marked tag_at running_tag (rw (length_with_number 8 begun mark_at (mark_in t), length_begun t m) (omega arith)) (lit< tt);
        state = unwritten 2 state_at (omega arith) (omega arith) ∙ sym (number_empty book (within_bytes book limits));
        spare = unwritten 6 spare_at (omega arith) (omega arith);
        place = unwritten 8 place_at (omega arith) (omega arith);
        mark = number_apart 8 8 marked tag_at running_tag mark_at (inr (omega arith))
            ∙ number_written 8 begun mark_at (mark_in t) (rw (length_begun t m) (omega arith)) (number_below 8 t tables.mark_at tables_bytes)
            ∙ mark_laid book limits t laid;
        windows = windows_same begun (begun_with t m)
            (λ i from. number_byte_apart 8 marked tag_at running_tag i (inr (omega arith)) ∙ number_byte_apart 8 begun mark_at (mark_in t) i (inr (omega arith)))
            book [] (windows_begin book limits t laid m whole);
      })

-- ── After some bytes more ──

-- Memory with the windows of the book after y, and otherwise its head after x, is the book's after y once state and place are written.
module _ (book : Book) (limits : Within book) (x y m n : List ℕ) (whole : WholeRunning n) (bytes : Bytes n) (early : length y < 256 ^ 8)
    (laid : Laid (running_layout book x) m) (same : (i : ℕ) → i < flag_at → get_or n i 0 ≡ get_or m i 0) (windows : Windows book y n) where
  abbrev state : ℕ
  state = number_in book (after (is_state book) y)

  abbrev stated : List ℕ
  stated = with_number 2 n state_at state

  -- A number of the head that is neither the state nor the place is as it was.
  kept_number : (width at : ℕ) → (at + width ≤ state_at) ⊎ (state_at + 2 ≤ at) → (at + width ≤ place_at) ⊎ (place_at + 8 ≤ at) → at + width ≤ flag_at
      → number_at width (moved_to n state (length y)) at ≡ number_at width m at
  unfolding moved_to
  kept_number width at a b inside =
      number_apart width 8 stated _ (length y) at (⊎_elim (λ l. inl (omega arith)) (λ l. inr (omega arith)) b)
      ∙ number_apart width 2 n state_at state at a
      ∙ number_agree width n m at (λ i from to. same i (omega arith))

  small : state < 256 ^ 2
  small =
      let listed = number_inside book (within_bytes book limits) (after (is_state book) y) (after_state (is_state book) (is_state_closed book).empty y) in
      omega (arith, (fits book limits).states)

  pub laid_moved : Laid (running_layout book y) (moved_to n state (length y))
  unfolding moved_to
  laid_moved =
      let held : Held book x m = laid_held book x m laid in
      held_laid book y (moved_to n state (length y))
      (number_bytes_kept 8 stated place_at (length y) (number_bytes_kept 2 n state_at state bytes))
      (record {
        tag = kept_number 8 tag_at (inl (omega arith)) (inl (omega arith)) (omega arith) ∙ held.tag;
        state = number_apart 2 8 stated place_at (length y) state_at (inl (omega arith)) ∙ number_written 2 n state_at state (omega arith) small;
        spare = kept_number 6 spare_at (inr (omega arith)) (inl (omega arith)) (omega arith) ∙ held.spare;
        place = number_written 8 stated place_at (length y) (rw (length_with_number 2 n state_at state) (omega arith)) early;
        mark = kept_number 8 mark_at (inr (omega arith)) (inr (omega arith)) (omega arith) ∙ held.mark;
        windows = windows_same n (moved_to n state (length y))
            (λ i from. number_byte_apart 8 stated place_at (length y) i (inr (omega arith)) ∙ number_byte_apart 2 n state_at state i (inr (omega arith)))
            book y windows;
      })
