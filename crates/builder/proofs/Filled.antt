-- The passes of an accepted book, in cleared memory, leave one after the other what the next one asks for; at the end the memory
-- holds the book's tables, and past the published size what it held. Assumes nothing.
use mathlib.Core.Path.{◌≡◌, refl, ap₂, ◌∙◌}
use mathlib.Core.Logic.{inl, inr}
use mathlib.Core.List.{List}
use Prim.Native.Nat.{ℕ, ◌+◌, ◌*◌, ◌≤◌, ◌<◌}
use native.Mathlib.Omega.{arith}
use lib.ListN.{length, get_or}
use Rattle.lent.specs.Numbers.{Bytes}
use Rattle.lent.proofs.Numbers.{number_agree}
use Rattle.meaning.specs.Books.{Book}
use Rattle.numbering.specs.States.{state_count}
use Rattle.tables.specs.Regions.{Laid}
use Rattle.tables.specs.Spots.{spot_count}
use Rattle.tables.specs.Layout.{tables_size, tables_layout, info_at, out_at, depth_at, label_at, piece_at, rows_at, room_for_states, room_for_pieces, book_mark}
use Rattle.tables.specs.Reads.{link_in}
use Rattle.tables.proofs.Parts.{number_zero}
use Rattle.tables.proofs.Fits.{fits}
use Rattle.stepping.proofs.Kept.{states_kept, failures_kept}
use Rattle.linking.proofs.Filled.{states_held, failures_held}
use Rattle.survey.specs.Turns.{Notes}
use Rattle.survey.specs.Survey.{surveyed, counts_of}
use Rattle.survey.specs.Meant.{SurveyMeant}
use Rattle.survey.proofs.Right.{mark_meant}
use Rattle.endings.specs.Filled.{filled}
use Rattle.endings.specs.Right.{Ready, Right, Elsewhere}
use Rattle.endings.proofs.Right.{filled_right, filled_kept}
use Rattle.builder.specs.Passes.{Fresh, Readied, read_notes, numbered_by, linked_by, found_by, states_by, rows_by, read_into, tables_after, tables_from}
use Rattle.builder.proofs.States.{count_is, states_linked, fail_linked, pieces_is, found_keyword}
use Rattle.builder.proofs.Headed.{header_long}
use Rattle.builder.proofs.Elsewhere.{elsewhere_low, elsewhere_high, length_filled}
use Rattle.builder.proofs.Rows.{RowsReady, RowsRight, rowed_right}
use Rattle.builder.proofs.Reread.{unread, reread_meant, reread_readied}
use Rattle.builder.proofs.Laid.{tables_of, built_past, built_laid}

module _ (book : Book) (bytes blank : List ℕ) (each : Bytes bytes) (fresh : Fresh book bytes blank) where
  -- ── The memory after each pass ──

  abbrev notes : Notes
  notes = read_notes (read_into bytes blank)

  abbrev linked : List ℕ
  linked = linked_by bytes notes

  abbrev found : List ℕ
  found = found_by bytes notes

  abbrev ended : List ℕ
  ended = states_by bytes notes

  abbrev rowed : List ℕ
  rowed = rows_by (state_count book) ended

  meant : SurveyMeant book bytes (unread blank) (counts_of (read_into bytes blank)) (read_into bytes blank).notes
  unfolding read_into
  meant = reread_meant book bytes blank each fresh (counts_of (surveyed bytes (unread blank))) (surveyed bytes (unread blank)).notes (record { counts = refl; notes = refl })

  ready : Readied book bytes notes
  unfolding read_into
  ready = reread_readied book bytes blank each fresh (counts_of (surveyed bytes (unread blank))) (surveyed bytes (unread blank)).notes (record { counts = refl; notes = refl })

  -- The numbers that the code counts are the book's.
  ended_is : ended ≡ filled found (state_count book) (spot_count book) linked
  unfolding states_by
  ended_is = ap₂ (λ n p. filled found n p linked) (count_is book bytes notes ready) (pieces_is book bytes notes ready)

  tables_are : tables_from bytes blank ≡ tables_of book rowed
  unfolding tables_from tables_after
  tables_are = rw (count_is book bytes notes ready, meant.pieces, meant.phrases, mark_meant fresh.accepted)

  -- ── How long it is ──

  linked_long : length linked ≡ length blank
  linked_long = (states_linked book bytes notes ready).whole ∙ meant.entered.long

  ended_long : length ended ≡ length blank
  unfolding states_by
  ended_long = length_filled found (numbered_by bytes notes).states (length notes.words) linked ∙ linked_long

  module _ (clean : (k : ℕ) → k < tables_size → get_or blank k 0 ≡ 0) where
    -- ── What the endings find ──

    zero_linked : (k : ℕ) → k < label_at → get_or linked k 0 ≡ 0
    unfolding tables_size
    zero_linked k l = (states_linked book bytes notes ready).kept k (inl l) ∙ meant.entered.elsewhere k (inl (omega arith)) ∙ clean k (omega arith)

    no_links : (p : ℕ) → p < room_for_pieces → link_in linked p ≡ 0
    unfolding tables_size
    no_links p l =
        number_agree 2 linked notes.tables (piece_at + 8 * p + 4) (λ k a b. (states_linked book bytes notes ready).kept k (inr (omega arith)))
        ∙ meant.entered.links p l
        ∙ number_zero 2 blank (piece_at + 8 * p + 4) (λ k a b. clean k (omega arith))

    endings_ready : Ready book found linked
    endings_ready = record {
      whole = omega (arith, linked_long, fresh.whole);
      infos = λ i l. zero_linked (info_at + i) (omega arith);
      outs = λ i l. zero_linked (out_at + i) (omega arith);
      links = no_links;
      fails = fail_linked book bytes notes ready;
      states = found_keyword book bytes notes ready;
    }

    right : Right book ended
    right = rw ended_is (filled_right book fresh.accepted.within found linked endings_ready)

    ended_kept : (k : ℕ) → Elsewhere k → get_or ended k 0 ≡ get_or linked k 0
    ended_kept k a = rw ended_is (filled_kept book fresh.accepted.within found linked endings_ready k a)

    -- ── What the rows find ──

    ended_states : (k : ℕ) → label_at ≤ k → k < piece_at → get_or ended k 0 ≡ get_or linked k 0
    ended_states k a b = ended_kept k (elsewhere_low k (inr (omega arith, b)))

    zero_cells : (k : ℕ) → rows_at ≤ k → k < 49152 → get_or ended k 0 ≡ 0
    unfolding tables_size
    zero_cells k a b =
        ended_kept k (elsewhere_high k (omega arith)) ∙ (states_linked book bytes notes ready).kept k (inr (omega arith)) ∙ meant.entered.elsewhere k (inr a)
        ∙ clean k b

    rows_ready : RowsReady book ended
    rows_ready =
        let room : state_count book ≤ room_for_states = (fits book fresh.accepted.within).states in
        let links = states_linked book bytes notes ready in
        record {
          whole = omega (arith, ended_long, fresh.whole);
          states = states_kept book room linked ended ended_states (states_held book room notes.tables linked links);
          failures = failures_kept book room linked ended ended_states (state_count book) (omega arith) (failures_held book room notes.tables linked links);
          depths = λ i l. ended_kept (depth_at + i) (elsewhere_low (depth_at + i) (inr (omega arith, omega arith))) ∙ zero_linked (depth_at + i) (omega arith);
          infos = right.infos;
          cells = zero_cells;
        }

    rows : RowsRight book ended rowed
    rows = rowed_right book fresh.accepted.within ended rows_ready

    -- ── What is built ──

    pub tables_laid : Laid (tables_layout book) (tables_from bytes blank)
    tables_laid = rw tables_are
        (built_laid book fresh.accepted.within blank notes.tables linked ended rowed meant.entered (states_linked book bytes notes ready) ended_kept rows
        (omega (arith, rows.long, ended_long, fresh.whole)) right clean)

    pub tables_past : (k : ℕ) → tables_size ≤ k → get_or (tables_from bytes blank) k 0 ≡ get_or blank k 0
    tables_past k l = rw tables_are
        (built_past book fresh.accepted.within blank notes.tables linked ended rowed meant.entered (states_linked book bytes notes ready) ended_kept rows k l)

    pub tables_long : length (tables_from bytes blank) ≡ length blank
    tables_long = rw tables_are (header_long (state_count book) (spot_count book) (length book.phrases) (book_mark book) rowed ∙ rows.long ∙ ended_long)
