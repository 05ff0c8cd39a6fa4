-- One byte of the scan keeps the windows in memory the book's: read from the tables, it does to the closing places and the waiting pieces
-- what one byte of the book's own does to them.
-- Assumes nothing.
use mathlib.Core.Path.{◌≡◌, refl, ap, ap₂, ◌∙◌}
use mathlib.Core.Bool.{Bool, ◌||◌}
use mathlib.Core.List.{List, [], ◌∷◌, ◌++◌, Memᴰ}
use Prim.Native.Nat.{ℕ, suc, ◌≤◌, ◌<◌}
use native.Mathlib.Omega.{arith}
use lib.ListN.{length, get_or}
use Rattle.lent.specs.Numbers.{Bytes}
use Rattle.meaning.specs.Books.{Book}
use Rattle.meaning.specs.Matching.{suffix, matches}
use Rattle.meaning.specs.Automaton.{is_state, after}
use Rattle.meaning.proofs.States.{is_state_closed}
use Rattle.meaning.proofs.After.{after_state}
use Rattle.format.specs.Limits.{All, Within}
use Rattle.numbering.specs.States.{number_in}
use Rattle.tables.specs.Regions.{Laid}
use Rattle.tables.specs.Spots.{spot_at, spot_count, no_phrase}
use Rattle.tables.specs.Endings.{endings}
use Rattle.tables.specs.Layout.{room_for_pieces, room_for_phrases, up_to, tables_layout}
use Rattle.tables.specs.Reads.{rank_in}
use Rattle.tables.proofs.Spots.{placed}
use Rattle.tables.proofs.Fits.{fits}
use Rattle.tables.proofs.Endings.{endings_iff}
use Rattle.running.specs.Waiting.{slots, never, waits}
use Rattle.running.specs.Layout.{closing_in}
use Rattle.running.specs.Reads.{WholeRunning, closing_place_in, waits_in}
use Rattle.running.specs.Kept.{Kept, closing_after, waiting_on, waiting_after}
use Rattle.running.specs.Held.{Windows}
use Rattle.running.proofs.Kept.{kept_step}
use Rattle.running.proofs.Marks.{marked_matches}
use Rattle.marks.specs.Marked.{no_marks, is_marked}
use Rattle.marks.proofs.Marked.{none_marked}
use Rattle.window.specs.Opening.{slot_opened}
use Rattle.window.specs.Ending.{Ended, pieces_ended}
use Rattle.window.specs.Happened.{ended_at}
use Rattle.window.proofs.Opening.{length_slot}
use Rattle.window.specs.Places.{Elsewhere}
use Rattle.window.specs.Midway.{Midway}
use Rattle.window.proofs.Slots.{bytes_slot, byte_slot, flags_slot, waits_slot, closing_slot}
use Rattle.window.proofs.Tables.{rank_spot, pieces_state, ends_suffix}
use Rattle.window.proofs.Same.{among, opened, same_closing, same_waiting, same_marks}
use Rattle.window.proofs.EndingRead.{all_midway, all_waits, all_marked}

all_of : (P : ℕ → Type 0) (l : List ℕ) → ((p : ℕ) → Memᴰ p l → P p) → All P l
unfolding All
all_of P [] h = tt
all_of P (p ∷ l) h = (h p (Memᴰ.head refl), all_of P l (λ q m. h q (Memᴰ.tail m)))

module _ (book : Book) (limits : Within book) (t : List ℕ) (laid : Laid (tables_layout book) t) (tables_bytes : Bytes t)
    (x : List ℕ) (a : ℕ) (early : suc (length x) < 4294967296) (m : List ℕ) (whole : WholeRunning m) (windows : Windows book x m) where
  abbrev now : List ℕ
  now = x ++ a ∷ []

  abbrev here : ℕ
  here = suc (length x)

  abbrev reached : List ℕ
  reached = after (is_state book) now

  -- The pieces whose keyword ends here.
  abbrev pieces : List ℕ
  pieces = endings book reached

  abbrev ending : ℕ → Bool
  ending = among pieces

  abbrev closing : ℕ → ℕ
  closing = opened t m here

  abbrev first : Ended
  first = record { marks = no_marks; memory = slot_opened t m here }

  real : (p : ℕ) → Memᴰ p pieces → p < spot_count book
  real p h = ((endings_iff book reached p).0 h).0

  all_inside : All (λ p. p < room_for_pieces) pieces
  all_inside = all_of (λ p. p < room_for_pieces) pieces (λ p h. omega (arith, real p h, (fits book limits).pieces))

  all_ranked : All (λ p. rank_in t p < room_for_phrases) pieces
  all_ranked = all_of (λ p. rank_in t p < room_for_phrases) pieces
      (λ p h. omega (arith, rank_spot book limits t laid p (real p h), (placed book limits).ranked p (real p h), (fits book limits).phrases))

  midway : Midway t here closing m first
  midway = record {
    whole = rw (length_slot t m here) whole;
    closes = closing_slot t m here whole windows.flags tables_bytes early;
    flags = flags_slot t m here whole windows.flags;
    elsewhere = byte_slot t m here whole;
    bytes = bytes_slot t m here whole;
  }

  -- What holds once all pieces have been looked at.
  done : Midway t here closing m (pieces_ended t here first pieces)
  done = all_midway t here closing m pieces all_inside first midway

  -- The pieces that the scan looks at are these.
  ended : ended_at t (number_in book reached) here m ≡ pieces_ended t here first pieces
  unfolding ended_at
  ended = ap (pieces_ended t here first) (pieces_state book limits t laid reached (after_state (is_state book) (is_state_closed book).empty now))

  early_enough : here ≤ never
  unfolding never
  early_enough = omega arith

  right : (p : ℕ) → p < spot_count book → ending p ≡ suffix (spot_at book p).piece.keyword reached
  right p inside = ends_suffix book reached p inside

  -- The windows are the book's after one byte more.
  pub windows_step : Windows book now (ended_at t (number_in book reached) here m).memory
  unfolding waiting_after waiting_on
  windows_step = rw ended (record { flags = done.flags; kept = record { close = close; wait = wait } })
    where
      step : Kept book now (closing_after book here (closing_place_in m) (waits_in m)) (waiting_after book here (closing_place_in m) (waits_in m) ending)
      step = kept_step book limits x a early_enough (closing_place_in m) (waits_in m) windows.kept ending right

      close : (p : ℕ) → p < room_for_pieces → closing_place_in (pieces_ended t here first pieces).memory p ≡ up_to (spot_count book) (closing_in book now) p
      close p room = done.closes p room ∙ same_closing book limits t laid x m windows here pieces real p room ∙ step.close p room

      wait : (q p : ℕ) → q < slots → p < room_for_pieces → waits_in (pieces_ended t here first pieces).memory q p ≡ waits book now q p
      wait q p slot room =
          all_waits t here closing m pieces all_inside first midway q p slot room
          ∙ ap₂ ◌||◌ (waits_slot t m here whole windows.flags q p slot room) (same_waiting book limits t laid x m windows here pieces real q p slot room)
          ∙ step.wait q p slot room

  -- The marks are the phrases that match at the new place.
  pub marks_step : (j : ℕ) → j < length book.phrases
      → is_marked (ended_at t (number_in book reached) here m).marks j ≡ matches book (get_or book.phrases j no_phrase) now here
  marks_step j h =
      ap (λ (e : Ended). is_marked e.marks j) ended
      ∙ all_marked t here closing m pieces all_inside all_ranked first midway j
      ∙ ap₂ ◌||◌ (none_marked j) (same_marks book limits t laid x m windows here pieces real j)
      ∙ marked_matches book limits x a early_enough (closing_place_in m) (waits_in m) windows.kept ending right j h

  -- Nothing else is changed: the head, and what lies past the published size, are as they were.
  pub elsewhere_step : (i : ℕ) → Elsewhere i → get_or (ended_at t (number_in book reached) here m).memory i 0 ≡ get_or m i 0
  elsewhere_step i there = rw ended (done.elsewhere i there)

  pub bytes_step : Bytes m → Bytes (ended_at t (number_in book reached) here m).memory
  bytes_step h = rw ended (done.bytes h)
