-- Each region is filled by one pass, and no pass touches what another fills: so in cleared memory the passes leave the tables of the
-- book, byte for byte as the layout has them. Assumes nothing.
use mathlib.Core.Path.{◌≡◌, ap, ◌∙◌}
use mathlib.Core.Logic.{◌⊎◌, inl, inr}
use mathlib.Core.List.{List, [], ◌∷◌}
use Prim.Native.Nat.{ℕ, ◌+◌, ◌*◌, ◌≤◌, ◌<◌}
use native.Mathlib.Omega.{arith}
use lib.ListN.{length, get_or}
use Rattle.lent.specs.Numbers.{number_at}
use Rattle.lent.proofs.Numbers.{number_agree}
use Rattle.meaning.specs.Books.{Book}
use Rattle.format.specs.Limits.{Within}
use Rattle.format.specs.Written.{written}
use Rattle.numbering.specs.States.{byte_values, state_count, first_child, failure_in}
use Rattle.tables.specs.Regions.{entry_length, HoldsParts, HoldsRegion, Laid}
use Rattle.tables.specs.Spots.{spot_count}
use Rattle.tables.specs.Endings.{link_of}
use Rattle.tables.specs.Classes.{class_count}
use Rattle.tables.specs.Layout.{tables_size, tables_layout, tag_at, states_at, dense_at, pieces_at, phrases_at, mark_at, spare_at, column_at, info_at, out_at, depth_at}
use Rattle.tables.specs.Layout.{label_at, fail_at, child_at, piece_at, phrase_at, rows_at, room_for_states, room_for_pieces, room_for_phrases, room_for_cells}
use Rattle.tables.specs.Layout.{up_to, always, number, region, tables_tag, book_mark}
use Rattle.tables.specs.Layout.{dense_count, column_of, cell_of, info_of, out_of, depth_of, label_of, delay_of, span_of, rank_of, ends_of, number_of_rank, rights_of_rank}
use Rattle.tables.specs.Reads.{Whole, delay_in, span_in, link_in, rank_in, ends_in}
use Rattle.tables.proofs.Parts.{number_one}
use Rattle.tables.proofs.Fits.{fits}
use Rattle.survey.specs.Meant.{Entered}
use Rattle.linking.specs.Filled.{Filled}
use Rattle.linking.proofs.Filled.{one_number}
use Rattle.endings.specs.Right.{Right, Elsewhere}
use Rattle.builder.specs.Passes.{with_header}
use Rattle.builder.proofs.Regions.{single, byte_region, zero_region, region_kept}
use Rattle.builder.proofs.Rows.{RowsRight}
use Rattle.builder.proofs.Headed.{mark_small, header_kept, tag_written, mark_written, phrases_written, pieces_written, states_written}
use Rattle.builder.proofs.Elsewhere.{elsewhere_low, elsewhere_high, elsewhere_front, elsewhere_back}

-- The memory at the end of the passes, of which `rowed` is what the last but the head leaves.
abbrev pub tables_of : Book → List ℕ → List ℕ
tables_of book rowed = with_header (state_count book) (spot_count book) (length book.phrases) (book_mark book) rowed

-- One fact and then the others.
and_then : {A B : Type 0} → A → B → A × B
and_then a b = (a, b)

-- The memory is blank, then read into, then linked; then its endings are filled, and then its rows.
module _ (book : Book) (within : Within book) (blank read linked ended rowed : List ℕ) (entered : Entered book blank read) (links : Filled book read linked)
    (ended_kept : (k : ℕ) → Elsewhere k → get_or ended k 0 ≡ get_or linked k 0) (rows : RowsRight book ended rowed) where
  abbrev built : List ℕ
  built = tables_of book rowed

  -- ── What each pass leaves as it was ──

  built_kept : (k : ℕ) → ((dense_at ≤ k) × (k < pieces_at)) ⊎ (spare_at ≤ k) → get_or built k 0 ≡ get_or rowed k 0
  built_kept k a = header_kept (state_count book) (spot_count book) (length book.phrases) (book_mark book) rowed k a

  -- From the published size on every byte is as it was.
  pub built_past : (k : ℕ) → tables_size ≤ k → get_or built k 0 ≡ get_or blank k 0
  unfolding tables_size
  built_past k l =
      built_kept k (inr (omega arith)) ∙ rows.past k l ∙ ended_kept k (elsewhere_high k (omega arith)) ∙ links.kept k (inr (omega arith))
      ∙ entered.elsewhere k (inr (omega arith))

  -- Labels, failures and first children are those that were linked.
  states_kept : (k : ℕ) → label_at ≤ k → k < piece_at → get_or built k 0 ≡ get_or linked k 0
  states_kept k a b = built_kept k (inr (omega arith)) ∙ rows.entries k a (omega arith) ∙ ended_kept k (elsewhere_low k (inr (omega arith, b)))

  -- What the second reading entered stands where the endings leave it alone.
  entry_kept : (k : ℕ) → piece_at ≤ k → k < rows_at → Elsewhere k → get_or built k 0 ≡ get_or read k 0
  entry_kept k l b a = built_kept k (inr (omega arith)) ∙ rows.entries k (omega arith) b ∙ ended_kept k a ∙ links.kept k (inr l)

  module _ (whole : Whole rowed) (right : Right book ended) (clean : (k : ℕ) → k < tables_size → get_or blank k 0 ≡ 0) where
    -- The spare bytes stay zero.
    spare_built : (k : ℕ) → spare_at ≤ k → k < column_at → get_or built k 0 ≡ 0
    unfolding tables_size
    spare_built k a b =
        built_kept k (inr a) ∙ rows.counts k (omega arith) b ∙ ended_kept k (elsewhere_low k (inl (omega arith))) ∙ links.kept k (inl (omega arith))
        ∙ entered.elsewhere k (inl (omega arith)) ∙ clean k (omega arith)

    -- ── The head ──

    tag_built : number_at 8 built tag_at ≡ tables_tag
    tag_built = tag_written (state_count book) (spot_count book) (length book.phrases) (book_mark book) rowed whole

    states_built : number_at 2 built states_at ≡ state_count book
    states_built = states_written (state_count book) (spot_count book) (length book.phrases) (book_mark book) rowed whole (fits book within).states

    counts_built : number_at 2 built pieces_at ≡ spot_count book
    counts_built = pieces_written (state_count book) (spot_count book) (length book.phrases) (book_mark book) rowed whole (fits book within).pieces

    names_built : number_at 2 built phrases_at ≡ length book.phrases
    names_built = phrases_written (state_count book) (spot_count book) (length book.phrases) (book_mark book) rowed whole (fits book within).phrases

    mark_built : number_at 8 built mark_at ≡ book_mark book
    unfolding book_mark
    mark_built = mark_written (state_count book) (spot_count book) (length book.phrases) (book_mark book) rowed whole (mark_small (written book) 0 (omega arith))

    -- ── Columns, rows and depths ──

    dense_built : number_at 2 built dense_at ≡ dense_count book
    dense_built = number_agree 2 built rowed dense_at (λ k a b. built_kept k (inl (a, omega arith))) ∙ rows.dense

    columns_built : HoldsRegion built (region column_at byte_values (number 2 (column_of book) ∷ []))
    columns_built = one_number built column_at byte_values 2 (column_of book) (λ byte l.
        number_agree 2 built rowed (column_at + 2 * byte) (λ k a b. built_kept k (inr (omega arith))) ∙ rows.columns byte l)

    rows_built : HoldsRegion built (region rows_at room_for_cells (number 2 (up_to (dense_count book * class_count book) (cell_of book)) ∷ []))
    rows_built = one_number built rows_at room_for_cells 2 (up_to (dense_count book * class_count book) (cell_of book)) (λ j l.
        number_agree 2 built rowed (rows_at + 2 * j) (λ k a b. built_kept k (inr (omega arith))) ∙ rows.cells j l)

    -- ── Pieces and phrases ──

    module _ (p : ℕ) (inside : p < room_for_pieces) where
      delay_built : delay_in built p ≡ up_to (spot_count book) (delay_of book) p
      delay_built =
          number_agree 2 built read (piece_at + 8 * p) (λ k a b. entry_kept k (omega arith) (omega arith) (elsewhere_front p k a (omega arith)))
          ∙ entered.delays p inside

      span_built : span_in built p ≡ up_to (spot_count book) (span_of book) p
      span_built =
          number_agree 2 built read (piece_at + 8 * p + 2) (λ k a b. entry_kept k (omega arith) (omega arith) (elsewhere_front p k (omega arith) (omega arith)))
          ∙ entered.spans p inside

      link_built : link_in built p ≡ up_to (spot_count book) (link_of book) p
      link_built =
          number_agree 2 built ended (piece_at + 8 * p + 4) (λ k a b. built_kept k (inr (omega arith)) ∙ rows.entries k (omega arith) (omega arith))
          ∙ right.links p inside

      rank_built : rank_in built p ≡ up_to (spot_count book) (rank_of book) p
      rank_built = entry_kept (piece_at + 8 * p + 6) (omega arith) (omega arith) (elsewhere_back p (piece_at + 8 * p + 6) (omega arith) (omega arith)) ∙ entered.ranks p inside

      ends_built : ends_in built p ≡ up_to (spot_count book) (ends_of book) p
      ends_built = entry_kept (piece_at + 8 * p + 7) (omega arith) (omega arith) (elsewhere_back p (piece_at + 8 * p + 7) (omega arith) (omega arith)) ∙ entered.ends p inside

    pieces_built : HoldsRegion built (region piece_at room_for_pieces
        (number 2 (up_to (spot_count book) (delay_of book))
        ∷ number 2 (up_to (spot_count book) (span_of book))
        ∷ number 2 (up_to (spot_count book) (link_of book))
        ∷ number 1 (up_to (spot_count book) (rank_of book))
        ∷ number 1 (up_to (spot_count book) (ends_of book)) ∷ []))
    unfolding HoldsRegion HoldsParts entry_length
    pieces_built p l =
        let at : ℕ = piece_at + 8 * p in
        let four : at + 2 + 2 ≡ at + 4 = omega arith in
        let six : at + 2 + 2 + 2 ≡ at + 6 = omega arith in
        let seven : at + 2 + 2 + 2 + 1 ≡ at + 7 = omega arith in (
          delay_built p l,
          (
            span_built p l,
            (
              ap (number_at 2 built) four ∙ link_built p l,
              (
                number_one built (at + 2 + 2 + 2) ∙ ap (λ k. get_or built k 0) six ∙ rank_built p l,
                (number_one built (at + 2 + 2 + 2 + 1) ∙ ap (λ k. get_or built k 0) seven ∙ ends_built p l, tt),
              ),
            ),
          ),
        )

    phrases_built : HoldsRegion built (region phrase_at room_for_phrases
        (number 2 (up_to (length book.phrases) (number_of_rank book))
        ∷ number 1 (up_to (length book.phrases) (rights_of_rank book))
        ∷ number 1 (always 0) ∷ []))
    unfolding HoldsRegion HoldsParts entry_length always
    phrases_built j l =
        let at : ℕ = phrase_at + 4 * j in
        let three : at + 2 + 1 ≡ at + 3 = omega arith in
        let kept : (k : ℕ) → phrase_at ≤ k → k < rows_at → get_or built k 0 ≡ get_or read k 0 = λ k a b. entry_kept k (omega arith) b (elsewhere_high k a) in (
          number_agree 2 built read at (λ k a b. kept k (omega arith) (omega arith)) ∙ entered.numbers j l,
          (
            number_one built (at + 2) ∙ kept (at + 2) (omega arith) (omega arith) ∙ entered.rights j l,
            (number_one built (at + 2 + 1) ∙ ap (λ k. get_or built k 0) three ∙ kept (at + 3) (omega arith) (omega arith) ∙ entered.spares j l, tt),
          ),
        )

    -- ── All regions ──

    pub built_laid : Laid (tables_layout book) built
    unfolding Laid tables_layout tables_size
    built_laid =
        and_then (single built tag_at 8 tables_tag tag_built)
        (and_then (single built states_at 2 (state_count book) states_built)
        (and_then (single built dense_at 2 (dense_count book) dense_built)
        (and_then (single built pieces_at 2 (spot_count book) counts_built)
        (and_then (single built phrases_at 2 (length book.phrases) names_built)
        (and_then (single built mark_at 8 (book_mark book) mark_built)
        (and_then (zero_region built spare_at 1 8 (λ k a b. spare_built k a (omega arith)))
        (and_then columns_built
        (and_then (byte_region built info_at room_for_states (up_to (state_count book) (info_of book)) (λ i l. built_kept (info_at + i) (inr (omega arith)) ∙ rows.infos i l))
        (and_then (byte_region built out_at room_for_states (up_to (state_count book) (out_of book)) (λ i l.
        built_kept (out_at + i) (inr (omega arith)) ∙ rows.outs (out_at + i) (omega arith) (omega arith) ∙ right.outs i l))
        (and_then (byte_region built depth_at room_for_states (up_to (state_count book) (depth_of book)) (λ i l. built_kept (depth_at + i) (inr (omega arith)) ∙ rows.depths i l))
        (and_then (region_kept built label_at room_for_states 1 linked (up_to (state_count book) (label_of book)) (λ k a b. states_kept k (omega arith) (omega arith)) links.labels)
        (and_then (region_kept built fail_at room_for_states 2 linked (up_to (state_count book) (failure_in book)) (λ k a b. states_kept k (omega arith) (omega arith)) links.failures)
        (and_then (region_kept built child_at (room_for_states + 1) 2 linked (up_to (state_count book + 1) (first_child book)) (λ k a b. states_kept k (omega arith) (omega arith)) links.children)
        (and_then pieces_built
        (and_then phrases_built
        (and_then rows_built tt))))))))))))))))
