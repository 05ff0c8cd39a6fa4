-- What the scan reads from the tables at a byte is what the book says: which windows close where, which pieces are set to wait, and which
-- phrases are marked.
-- Assumes nothing.
use mathlib.Core.Path.{◌≡◌, refl, sym, ap, ◌∙◌}
use mathlib.Core.Logic.{◌⊎◌, inl, inr}
use mathlib.Core.Bool.{Bool, false, So, not, cond, ◌&&◌, false≢true}
use mathlib.Core.List.{List, Memᴰ}
use Prim.Native.Nat.{ℕ, zero, suc, ◌+◌, ◌%◌, ◌≤◌, ◌<◌}
use native.Mathlib.Omega.{arith}
use lib.Dec.{leb, eqb}
use borrow.Author.Tests.{eq-eqb, eqb-true, not-true}
use Rattle.lent.proofs.Cases.{lt_or_le}
use Rattle.meaning.specs.Books.{Book}
use Rattle.meaning.specs.Automaton.{some_of}
use Rattle.meaning.specs.Windows.{delay, opens_at}
use Rattle.meaning.proofs.Truth.{both, and_left, and_right, same_truth}
use Rattle.meaning.proofs.States.{some_of_iff}
use Rattle.format.specs.Limits.{Within}
use Rattle.tables.specs.Regions.{Laid}
use Rattle.tables.specs.Spots.{spot_at, spot_count, Placed}
use Rattle.tables.specs.Layout.{room_for_pieces, tables_layout}
use Rattle.tables.specs.Reads.{delay_in, span_in, rank_in, last_in}
use Rattle.tables.proofs.Spots.{placed}
use Rattle.tables.proofs.Fits.{fits}
use Rattle.running.specs.Waiting.{slots, closes_at, slot_for, some_below}
use Rattle.running.specs.Reads.{closing_place_in, waits_in}
use Rattle.running.specs.Kept.{closing_after, ends_here, begins, marked}
use Rattle.running.specs.Held.{Windows}
use Rattle.running.proofs.Below.{some_below_iff}
use Rattle.running.proofs.Entries.{waits_past}
use Rattle.window.specs.Waiting.{slot_from}
use Rattle.window.specs.Opening.{closes_after}
use Rattle.window.specs.Midway.{sets_waiting, sets_mark}
use Rattle.window.proofs.Tables.{delay_spot, closes_spot, last_spot, rank_spot}

-- Piece p is one of these.
abbrev pub among : List ℕ → ℕ → Bool
among pieces p = some_of (eqb p) pieces

-- The closing places once the slot of a place has been opened.
abbrev pub opened : List ℕ → List ℕ → ℕ → ℕ → ℕ
opened t m place p = cond (waits_in m (place % slots) p) (closes_after (span_in t p) place) (closing_place_in m p)

-- Said of any pieces of the book, at any place.
module _ (book : Book) (limits : Within book) (t : List ℕ) (laid : Laid (tables_layout book) t)
    (x m : List ℕ) (windows : Windows book x m) (here : ℕ) (pieces : List ℕ) (inside : (p : ℕ) → Memᴰ p pieces → p < spot_count book) where
  abbrev ending : ℕ → Bool
  ending = among pieces

  abbrev closing : ℕ → ℕ
  closing = opened t m here

  order : Placed book
  order = placed book limits

  pub same_closing : (p : ℕ) → p < room_for_pieces → closing p ≡ closing_after book here (closing_place_in m) (waits_in m) p
  unfolding closing_after
  same_closing p room = go (lt_or_le p (spot_count book))
    where
      go : (p < spot_count book) ⊎ (spot_count book ≤ p)
          → closing p ≡ cond (waits_in m (here % slots) p) (closes_at (spot_at book p).piece.gap here) (closing_place_in m p)
      go (inl real) = ap (λ (c : ℕ). cond (waits_in m (here % slots) p) c (closing_place_in m p)) (closes_spot book limits t laid p real here)
      go (inr none) = rw (windows.kept.wait (here % slots) p (omega arith) room ∙ waits_past book x (here % slots) p none)

  -- A piece is set to wait exactly when a window of it begins and opens at a place of that slot.
  pub same_waiting : (q g : ℕ) → q < slots → g < room_for_pieces
      → some_of (sets_waiting t here closing q g) pieces
      ≡ begins book here (closing_place_in m) (waits_in m) ending g && eqb q (slot_for (spot_at book g).piece here)
  unfolding sets_waiting begins ends_here slot_for opens_at
  same_waiting q g hq hg = same_truth _ _ (λ u. there ((some_of_iff (sets_waiting t here closing q g) pieces).0 u), back g hg)
    where
      open_at : ℕ → Bool
      open_at p = leb here (closing_after book here (closing_place_in m) (waits_in m) p)

      begun : ℕ → Bool
      begun p = not (spot_at book p).last && (ending p && open_at p)

      slotted : ℕ → Bool
      slotted p = eqb q ((here + delay (spot_at book p).piece) % slots)

      -- The piece after p, where p is not the last of its phrase.
      next : (p : ℕ) → p < spot_count book → (spot_at book p).last ≡ false → ((p + 1) % room_for_pieces ≡ suc p) × (suc p < spot_count book)
      next p real e = (omega (arith, (order.chain p real e).0, (fits book limits).pieces), omega (arith, (order.chain p real e).0))

      slot_next : (p : ℕ) → p < spot_count book → (spot_at book p).last ≡ false
          → eqb q (slot_from t ((p + 1) % room_for_pieces) here) ≡ slotted (suc p)
      slot_next p real e =
          let n = next p real e in
          ap (λ (d : ℕ). eqb q ((here + d) % slots)) (ap (delay_in t) n.0 ∙ delay_spot book limits t laid (suc p) n.1)

      there : ((p : ℕ) × Memᴰ p pieces × So (sets_waiting t here closing q g p))
          → So (begins book here (closing_place_in m) (waits_in m) ending g && slotted g)
      there r =
          let p : ℕ = r.0 in
          let real : p < spot_count book = inside p r.1 in
          let rest = and_right (leb here (closing p)) _ r.2 in
          let no : (spot_at book p).last ≡ false = sym (last_spot book limits t laid p real) ∙ not-true (last_in t p) (and_left (not (last_in t p)) _ rest) in
          let both-eqs = and_right (not (last_in t p)) _ rest in
          let is : g ≡ suc p = eqb-true g ((p + 1) % room_for_pieces) (and_left (eqb g ((p + 1) % room_for_pieces)) _ both-eqs) ∙ (next p real no).0 in
          let due : So (slotted (suc p)) = sym (slot_next p real no) ∙ and_right (eqb g ((p + 1) % room_for_pieces)) _ both-eqs in
          let near : So (open_at p) = rw (same_closing p (omega (arith, (fits book limits).pieces))) at (and_left (leb here (closing p)) _ r.2) in
          rw is (both (begun p) (slotted (suc p))
          (both (not (spot_at book p).last) (ending p && open_at p) (rw no refl)
          (both (ending p) (open_at p) ((some_of_iff (eqb p) pieces).1 (p, r.1, eq-eqb p p refl)) near)) due)

      back : (g : ℕ) → g < room_for_pieces → So (begins book here (closing_place_in m) (waits_in m) ending g && slotted g) → So (some_of (sets_waiting t here closing q g) pieces)
      back zero hg u = absurd (false≢true u)
      back (suc p) hg u =
          let begin = and_left (begun p) (slotted (suc p)) u in
          let no : (spot_at book p).last ≡ false = not-true (spot_at book p).last (and_left (not (spot_at book p).last) (ending p && open_at p) begin) in
          let end = and_right (not (spot_at book p).last) (ending p && open_at p) begin in
          let r = (some_of_iff (eqb p) pieces).0 (and_left (ending p) (open_at p) end) in
          let listed : Memᴰ p pieces = rw (eqb-true p r.0 r.2) r.1 in
          let real : p < spot_count book = inside p listed in
          (some_of_iff (sets_waiting t here closing q (suc p)) pieces).1 (
            p,
            listed,
            both (leb here (closing p)) _ (rw (same_closing p (omega arith)) (and_right (ending p) (open_at p) end))
                (both (not (last_in t p)) _ (rw (last_spot book limits t laid p real ∙ no) refl)
                (both (eqb (suc p) ((p + 1) % room_for_pieces)) _ (eq-eqb (suc p) ((p + 1) % room_for_pieces) (sym (next p real no).0))
                (slot_next p real no ∙ and_right (begun p) (slotted (suc p)) u))),
          )

  -- A phrase is marked exactly when its last piece ends.
  pub same_marks : (j : ℕ) → some_of (sets_mark t here closing j) pieces ≡ marked book here (closing_place_in m) (waits_in m) ending j
  unfolding sets_mark marked ends_here
  same_marks j = same_truth _ _ (there, back)
    where
      open_at : ℕ → Bool
      open_at p = leb here (closing_after book here (closing_place_in m) (waits_in m) p)

      final : ℕ → Bool
      final p = (spot_at book p).last && (eqb (spot_at book p).rank j && (ending p && open_at p))

      there : So (some_of (sets_mark t here closing j) pieces) → So (some_below final (spot_count book))
      there u =
          let r = (some_of_iff (sets_mark t here closing j) pieces).0 u in
          let p : ℕ = r.0 in
          let real : p < spot_count book = inside p r.1 in
          let rest = and_right (leb here (closing p)) (last_in t p && eqb j (rank_in t p)) r.2 in
          let is : j ≡ rank_in t p = eqb-true j (rank_in t p) (and_right (last_in t p) (eqb j (rank_in t p)) rest) in
          let near : So (open_at p) = rw (same_closing p (omega (arith, (fits book limits).pieces))) at (and_left (leb here (closing p)) (last_in t p && eqb j (rank_in t p)) r.2) in
          (some_below_iff final (spot_count book)).1 (
            p,
            real,
            both (spot_at book p).last _ (sym (last_spot book limits t laid p real) ∙ and_left (last_in t p) (eqb j (rank_in t p)) rest)
                (both (eqb (spot_at book p).rank j) _ (eq-eqb (spot_at book p).rank j (sym (is ∙ rank_spot book limits t laid p real)))
                (both (ending p) (open_at p) ((some_of_iff (eqb p) pieces).1 (p, r.1, eq-eqb p p refl)) near)),
          )

      back : So (some_below final (spot_count book)) → So (some_of (sets_mark t here closing j) pieces)
      back u =
          let r = (some_below_iff final (spot_count book)).0 u in
          let p : ℕ = r.0 in
          let rest = and_right (spot_at book p).last _ r.2 in
          let is : (spot_at book p).rank ≡ j = eqb-true (spot_at book p).rank j (and_left (eqb (spot_at book p).rank j) (ending p && open_at p) rest) in
          let end = and_right (eqb (spot_at book p).rank j) (ending p && open_at p) rest in
          let h = (some_of_iff (eqb p) pieces).0 (and_left (ending p) (open_at p) end) in
          (some_of_iff (sets_mark t here closing j) pieces).1 (
            p,
            rw (eqb-true p h.0 h.2) h.1,
            both (leb here (closing p)) _ (rw (same_closing p (omega (arith, r.1, (fits book limits).pieces))) (and_right (ending p) (open_at p) end))
                (both (last_in t p) (eqb j (rank_in t p)) (last_spot book limits t laid p r.1 ∙ and_left (spot_at book p).last _ r.2)
                (eq-eqb j (rank_in t p) (sym (rank_spot book limits t laid p r.1 ∙ is)))),
          )
