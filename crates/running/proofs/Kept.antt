-- One byte more keeps the two functions the book's: the slot of the new place holds the windows that open there, and it is empty
-- again when the pieces that end there begin new ones.
-- Assumes nothing.
use mathlib.Core.Path.{◌≡◌, refl, sym, ap, ap₂, ◌∙◌}
use mathlib.Core.Logic.{⊎_elim}
use mathlib.Core.Bool.{Bool, true, false, not, cond, ◌&&◌, ◌||◌, and-false, and_comm}
use mathlib.Core.List.{List, [], ◌∷◌, ◌++◌}
use Prim.Native.Nat.{ℕ, zero, suc, ◌+◌, ◌%◌, ◌≤◌, ◌<◌}
use native.Mathlib.Numerals.{add-one}
use native.Mathlib.Omega.{arith}
use lib.Dec.{eqb}
use lib.ListN.{length, length-append}
use borrow.Author.Tests.{lt-leb, ne_eqb, eqb-true, eqb-false}
use Rattle.lent.proofs.Cases.{lt_or_le}
use Rattle.meaning.specs.Books.{Piece, Book}
use Rattle.meaning.specs.Matching.{suffix, ends}
use Rattle.meaning.specs.Automaton.{is_state, after}
use Rattle.meaning.specs.Windows.{delay}
use Rattle.format.specs.Limits.{Within}
use Rattle.tables.specs.Spots.{spot_at, spot_count, Placed}
use Rattle.tables.proofs.Spots.{placed}
use Rattle.tables.proofs.Fits.{fits}
use Rattle.tables.proofs.Fields.{up_to_below, up_to_past}
use Rattle.tables.specs.Layout.{room_for_pieces}
use Rattle.running.specs.Waiting.{slots, never, slot_for, closing_of, opens_from, place_in}
use Rattle.running.specs.Layout.{closing_in}
use Rattle.running.specs.Kept.{Kept, closing_after, waiting_on, ends_here, begins, waiting_after}
use Rattle.running.proofs.Places.{PlaceOf, place_in_lem, place_new, place_kept, slot_for_lem}
use Rattle.running.proofs.Closing.{spot_ended, closing_step}
use Rattle.running.proofs.Opening.{opening_step, none_opens}
use Rattle.running.proofs.Entries.{waits_below, waits_past}

-- An older window goes on waiting when a newer one begins, so that it opens at its own place: row H.
pub older_waits : (book : Book) (place : ℕ) (closing : ℕ → ℕ) (waiting : ℕ → ℕ → Bool) (ending : ℕ → Bool) (q p : ℕ)
    → waiting_on book place closing waiting q p ≡ true → waiting_after book place closing waiting ending q p ≡ true
unfolding waiting_after
older_waits book place closing waiting ending q p h = rw h

-- From what is kept after x to what is kept after one byte more, given whose keyword is a suffix of the state then.
module _ (book : Book) (limits : Within book) (x : List ℕ) (a : ℕ) (early : suc (length x) ≤ never)
    (closing : ℕ → ℕ) (waiting : ℕ → ℕ → Bool) (kept : Kept book x closing waiting)
    (ending : ℕ → Bool)
    (right : (p : ℕ) → p < spot_count book → ending p ≡ suffix (spot_at book p).piece.keyword (after (is_state book) (x ++ a ∷ []))) where
  abbrev now : List ℕ
  now = x ++ a ∷ []

  abbrev here : ℕ
  here = suc (length x)

  abbrev count : ℕ
  count = spot_count book

  long : length now ≡ here
  long = rw (length-append x (a ∷ []), add-one)

  order : Placed book
  order = placed book limits

  inside : (p : ℕ) → p < count → p < room_for_pieces
  inside p h = omega (arith, (fits book limits).pieces)

  -- ── Closing places ──

  -- Here and below: of a piece that the book has, and of a number that is no piece's.
  closing_real : (p : ℕ) → p < count → closing_after book here closing waiting p ≡ closing_of (spot_at book p) now
  unfolding closing_after closing_in
  closing_real p h =
      rw (
        kept.wait (here % slots) p (omega arith) (inside p h),
        waits_below book x (here % slots) p h,
        (place_new (length x)).0,
        kept.close p (inside p h),
        up_to_below count (closing_in book x) p h,
      )
      (sym (closing_step (spot_at book p) x a (order.soon p h).0))

  closing_none : (p : ℕ) → p < room_for_pieces → count ≤ p → closing_after book here closing waiting p ≡ 0
  unfolding closing_after
  closing_none p r h =
      rw (kept.wait (here % slots) p (omega arith) r, waits_past book x (here % slots) p h) (kept.close p r ∙ up_to_past count (closing_in book x) p h)

  -- ── Pieces that end ──

  pub ends_real : (p : ℕ) → p < count
      → ends_here book here closing waiting ending p ≡ ends length now 0 ((spot_at book p).before ++ (spot_at book p).piece ∷ []) here
  unfolding ends_here
  ends_real p h =
      rw (closing_real p h, right p h)
      (sym (rw long at (spot_ended book now (spot_at book p) (order.within p h).gap (order.listed p h) (rw long (omega arith)) (rw long early))))

  ends_none : (p : ℕ) → p < room_for_pieces → count ≤ p → ends_here book here closing waiting ending p ≡ false
  unfolding ends_here
  ends_none p r h = rw (closing_none p r h, lt-leb here 0 (omega arith)) (and-false (ending p))

  -- ── Windows that begin ──

  -- At a place past 0 a first piece's window does not begin.
  not_first : (pieces : List Piece) → pieces ≡ [] → ends length now 0 pieces here ≡ false
  unfolding ends
  not_first pieces e = rw e (ne_eqb 0 here (λ z. omega arith))

  begins_real : (p : ℕ) → p < count → begins book here closing waiting ending p ≡ ends length now 0 (spot_at book p).before here
  unfolding begins
  begins_real zero h = sym (not_first (spot_at book 0).before order.start)
  begins_real (suc p) h = go (spot_at book p).last refl
    where
      go : (v : Bool) → (spot_at book p).last ≡ v
          → not v && ends_here book here closing waiting ending p ≡ ends length now 0 (spot_at book (suc p)).before here
      go true e = sym (not_first (spot_at book (suc p)).before (rw add-one at (order.fresh p (omega arith) e)))
      go false e =
          ends_real p (omega arith)
          ∙ ap (λ (pieces : List Piece). ends length now 0 pieces here) (sym (rw add-one at (order.chain p (omega arith) e).1))

  begins_none : (p : ℕ) → p < room_for_pieces → count ≤ p → begins book here closing waiting ending p ≡ false
  unfolding begins
  begins_none zero r h = refl
  begins_none (suc p) r h = ⊎_elim
      (λ (l : p < count). last l (spot_at book p).last refl)
      (λ (l : count ≤ p). rw (ends_none p (omega arith) l) (and-false (not (spot_at book p).last)))
      (lt_or_le p count)
    where
      last : p < count → (v : Bool) → (spot_at book p).last ≡ v → not v && ends_here book here closing waiting ending p ≡ false
      last l true e = refl
      last l false e = absurd (omega (arith, (order.chain p l e).0))

  -- ── Waiting windows ──

  waiting_real : (q p : ℕ) → q < slots → p < count → waiting_after book here closing waiting ending q p ≡ opens_from (spot_at book p) now (place_in here q)
  unfolding waiting_after waiting_on
  waiting_real q p s h =
      ap₂ ◌||◌ (old (eqb q (here % slots)) refl) new
      ∙ sym (opening_step (spot_at book p) x a (order.soon p h).0 (place_in here q) of.later)
    where
      of : PlaceOf here q (place_in here q)
      of = place_in_lem here q s

      late : ℕ
      late = delay (spot_at book p).piece

      old : (v : Bool) → eqb q (here % slots) ≡ v → cond v false (waiting q p) ≡ opens_from (spot_at book p) x (place_in here q)
      old true e =
          let z : q ≡ here % slots = eqb-true q (here % slots) e in
          sym (none_opens (spot_at book p) x (place_in here q) (omega (arith, ap (place_in here) z, (place_new (length x)).1, (order.soon p h).1)))
      old false e =
          kept.wait q p s (inside p h) ∙ waits_below book x q p h
          ∙ ap (opens_from (spot_at book p) x) (sym (place_kept (length x) q s (eqb-false q (here % slots) e)))

      ended : Bool
      ended = ends length now 0 (spot_at book p).before here

      new : begins book here closing waiting ending p && eqb q (slot_for (spot_at book p).piece here) ≡ eqb (place_in here q) (here + late) && ended
      new =
          ap₂ ◌&&◌ (begins_real p h) (slot_for_lem (spot_at book p).piece (order.soon p h) here q s)
          ∙ and_comm ended (eqb (place_in here q) (here + late))

  waiting_none : (q p : ℕ) → q < slots → p < room_for_pieces → count ≤ p → waiting_after book here closing waiting ending q p ≡ false
  unfolding waiting_after waiting_on
  waiting_none q p s r h = rw (begins_none p r h, kept.wait q p s r, waits_past book x q p h) (neither (eqb q (here % slots)))
    where
      neither : (v : Bool) → cond v false false || false ≡ false
      neither true = refl
      neither false = refl

  -- ── All of it ──

  -- The two functions after one byte more are the book's.
  pub kept_step : Kept book now (closing_after book here closing waiting) (waiting_after book here closing waiting ending)
  unfolding closing_in
  kept_step = record {
    close = λ p r. ⊎_elim
        (λ (h : p < count). closing_real p h ∙ sym (up_to_below count (closing_in book now) p h))
        (λ (h : count ≤ p). closing_none p r h ∙ sym (up_to_past count (closing_in book now) p h))
        (lt_or_le p count);
    wait = λ q p s r. ⊎_elim
        (λ (h : p < count). waiting_real q p s h ∙ sym (waits_below book now q p h ∙ ap (λ (i : ℕ). opens_from (spot_at book p) now (place_in i q)) long))
        (λ (h : count ≤ p). waiting_none q p s r h ∙ sym (waits_past book now q p h))
        (lt_or_le p count);
  }
