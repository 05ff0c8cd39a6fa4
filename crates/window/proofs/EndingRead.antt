-- Of the pieces whose keyword ends at a place, each either is past, or marks its phrase, or sets the next piece to wait: neither changes a
-- closing place, so the pieces do not depend on each other.
-- Assumes nothing.
use mathlib.Core.Path.{◌≡◌, refl, sym, ap, ◌∙◌}
use mathlib.Core.Bool.{Bool, true, false, not, cond, ◌&&◌, ◌||◌, or-false, or_assoc}
use mathlib.Core.List.{List, [], ◌∷◌}
use Prim.Native.Nat.{ℕ, ◌+◌, ◌%◌, ◌<◌}
use native.Mathlib.Omega.{arith}
use lib.Dec.{leb, ltb, eqb}
use borrow.Author.Tests.{le-leb, lt-leb, ltb-true, ltb-false}
use Rattle.meaning.specs.Automaton.{some_of}
use Rattle.format.specs.Limits.{All}
use Rattle.tables.specs.Layout.{room_for_pieces, room_for_phrases}
use Rattle.tables.specs.Reads.{rank_in, last_in}
use Rattle.running.specs.Waiting.{slots}
use Rattle.running.specs.Reads.{closing_place_in, waits_in}
use Rattle.marks.specs.Marked.{is_marked, with_mark}
use Rattle.marks.proofs.Marked.{marked_with}
use Rattle.window.specs.Waiting.{slot_from, with_waiting_from}
use Rattle.window.specs.Ending.{Ended, piece_ended, pieces_ended}
use Rattle.window.proofs.Waiting.{length_waiting}
use Rattle.window.specs.Midway.{sets_waiting, sets_mark, Midway}
use Rattle.window.proofs.WaitingRead.{closing_waiting, waits_waiting, flags_waiting, byte_waiting, bytes_waiting}

module _ (t : List ℕ) (place : ℕ) (closing : ℕ → ℕ) (began : List ℕ) where
  -- ── One piece ──

  module _ (ended : Ended) (midway : Midway t place closing began ended) (p : ℕ) (piece : p < room_for_pieces) where
    abbrev next : ℕ
    next = (p + 1) % room_for_pieces

    abbrev slot : ℕ
    slot = slot_from t next place

    -- What comes of the piece, by whether it is past and whether it is the last.
    abbrev result : Bool → Bool → Ended
    result past last =
        cond past ended (cond last
        (record { marks = with_mark ended.marks (rank_in t p); memory = ended.memory })
        (record { marks = ended.marks; memory = with_waiting_from t ended.memory next place }))

    one_midway : Midway t place closing began (piece_ended t place ended p)
    unfolding piece_ended with_waiting_from
    one_midway = go (ltb (closing_place_in ended.memory p) place) (last_in t p)
      where
        go : (past last : Bool) → Midway t place closing began (result past last)
        go true last = midway
        go false true = record {
          whole = midway.whole;
          closes = midway.closes;
          flags = midway.flags;
          elsewhere = midway.elsewhere;
          bytes = midway.bytes;
        }
        go false false = record {
          whole = rw (length_waiting ended.memory slot next) midway.whole;
          closes = λ g room. closing_waiting ended.memory slot next midway.whole (omega arith) (omega arith) g room ∙ midway.closes g room;
          flags = flags_waiting ended.memory slot next midway.whole (omega arith) (omega arith) midway.flags;
          elsewhere = λ i there. byte_waiting ended.memory slot next midway.whole (omega arith) (omega arith) i there ∙ midway.elsewhere i there;
          bytes = λ h. bytes_waiting ended.memory slot next (midway.bytes h);
        }

    -- A piece is not past exactly when the place is at most its closing place.
    not_past_lem : (v : Bool) → ltb (closing_place_in ended.memory p) place ≡ v → leb place (closing p) ≡ not v
    not_past_lem true e = lt-leb place (closing p) (omega (arith, ltb-true (closing_place_in ended.memory p) place e, midway.closes p piece))
    not_past_lem false e = le-leb place (closing p) (omega (arith, ltb-false (closing_place_in ended.memory p) place e, midway.closes p piece))

    one_waits : (q g : ℕ) → q < slots → g < room_for_pieces
        → waits_in (piece_ended t place ended p).memory q g ≡ waits_in ended.memory q g || sets_waiting t place closing q g p
    unfolding piece_ended with_waiting_from sets_waiting
    one_waits q g hq hg = go (ltb (closing_place_in ended.memory p) place) refl (last_in t p)
      where
        old : Bool
        old = waits_in ended.memory q g

        go : (past : Bool) → ltb (closing_place_in ended.memory p) place ≡ past → (last : Bool)
            → waits_in (result past last).memory q g ≡ old || (leb place (closing p) && (not last && (eqb g next && eqb q slot)))
        go true e last = rw (not_past_lem true e) (sym (or-false old))
        go false e true = rw (not_past_lem false e) (sym (or-false old))
        go false e false = rw (not_past_lem false e) (waits_waiting ended.memory slot next midway.whole (omega arith) (omega arith) q g hq hg)

    one_marked : rank_in t p < room_for_phrases → (j : ℕ) → is_marked (piece_ended t place ended p).marks j ≡ is_marked ended.marks j || sets_mark t place closing j p
    unfolding piece_ended sets_mark
    one_marked rank j = go (ltb (closing_place_in ended.memory p) place) refl (last_in t p)
      where
        old : Bool
        old = is_marked ended.marks j

        go : (past : Bool) → ltb (closing_place_in ended.memory p) place ≡ past → (last : Bool)
            → is_marked (result past last).marks j ≡ old || (leb place (closing p) && (last && eqb j (rank_in t p)))
        go true e last = rw (not_past_lem true e) (sym (or-false old))
        go false e true = rw (not_past_lem false e) (marked_with ended.marks (rank_in t p) j rank)
        go false e false = rw (not_past_lem false e) (sym (or-false old))

  -- ── All pieces, one after the other ──

  pub all_midway : (pieces : List ℕ) → All (λ p. p < room_for_pieces) pieces → (ended : Ended) → Midway t place closing began ended
      → Midway t place closing began (pieces_ended t place ended pieces)
  unfolding pieces_ended All
  all_midway [] inside ended midway = midway
  all_midway (p ∷ rest) inside ended midway = all_midway rest inside.1 (piece_ended t place ended p) (one_midway ended midway p inside.0)

  pub all_waits : (pieces : List ℕ) → All (λ p. p < room_for_pieces) pieces → (ended : Ended) → Midway t place closing began ended
      → (q g : ℕ) → q < slots → g < room_for_pieces
      → waits_in (pieces_ended t place ended pieces).memory q g ≡ waits_in ended.memory q g || some_of (sets_waiting t place closing q g) pieces
  unfolding pieces_ended All some_of
  all_waits [] inside ended midway q g hq hg = sym (or-false (waits_in ended.memory q g))
  all_waits (p ∷ rest) inside ended midway q g hq hg =
      all_waits rest inside.1 (piece_ended t place ended p) (one_midway ended midway p inside.0) q g hq hg
      ∙ ap (λ v. v || some_of (sets_waiting t place closing q g) rest) (one_waits ended midway p inside.0 q g hq hg)
      ∙ or_assoc (waits_in ended.memory q g) (sets_waiting t place closing q g p) (some_of (sets_waiting t place closing q g) rest)

  pub all_marked : (pieces : List ℕ) → All (λ p. p < room_for_pieces) pieces → All (λ p. rank_in t p < room_for_phrases) pieces
      → (ended : Ended) → Midway t place closing began ended → (j : ℕ)
      → is_marked (pieces_ended t place ended pieces).marks j ≡ is_marked ended.marks j || some_of (sets_mark t place closing j) pieces
  unfolding pieces_ended All some_of
  all_marked [] inside ranks ended midway j = sym (or-false (is_marked ended.marks j))
  all_marked (p ∷ rest) inside ranks ended midway j =
      all_marked rest inside.1 ranks.1 (piece_ended t place ended p) (one_midway ended midway p inside.0) j
      ∙ ap (λ v. v || some_of (sets_mark t place closing j) rest) (one_marked ended midway p inside.0 ranks.0 j)
      ∙ or_assoc (is_marked ended.marks j) (sets_mark t place closing j p) (some_of (sets_mark t place closing j) rest)
