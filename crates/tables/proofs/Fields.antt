-- What is read from the tables of a book is what the rows of its layout say, entry by entry. Assumes nothing.
use mathlib.Core.Path.{◌≡◌, refl, ◌∙◌}
use mathlib.Core.List.{List}
use Prim.Native.Nat.{ℕ, ◌+◌, ◌≤◌, ◌<◌}
use native.Mathlib.Omega.{arith}
use lib.ListN.{length}
use borrow.Author.Tests.{lt-ltb, le-ltb}
use Rattle.lent.specs.Numbers.{number_at}
use Rattle.meaning.specs.Books.{Book}
use Rattle.format.specs.Limits.{Within}
use Rattle.numbering.specs.States.{state_count, first_child, failure_in}
use Rattle.tables.specs.Regions.{entry_length, Laid}
use Rattle.tables.specs.Spots.{spot_count}
use Rattle.tables.specs.Endings.{link_of}
use Rattle.tables.specs.Layout.{tag_at, up_to, always, tables_layout}
use Rattle.tables.specs.Layout.{tables_tag, book_mark, info_of, out_of, label_of, delay_of, span_of, rank_of, ends_of, number_of_rank, rights_of_rank}
use Rattle.tables.specs.Reads.{state_count_in, piece_count_in, phrase_count_in, mark_in, info_in, out_in, label_in, fail_in, first_child_in}
use Rattle.tables.specs.Reads.{delay_in, span_in, link_in, rank_in, ends_in, phrase_number_in, phrase_rights_in}
use Rattle.tables.proofs.Fits.{fits}
use Rattle.tables.proofs.Parts.{field_at, byte_at}

-- An entry below the count has its value, and from the count on an entry is 0.
pub up_to_below : (count : ℕ) (value : ℕ → ℕ) (j : ℕ) → j < count → up_to count value j ≡ value j
unfolding up_to
up_to_below count value j l = rw (lt-ltb j count l)

pub up_to_past : (count : ℕ) (value : ℕ → ℕ) (j : ℕ) → count ≤ j → up_to count value j ≡ 0
unfolding up_to
up_to_past count value j l = rw (le-ltb j count l)

module _ (book : Book) (within : Within book) (t : List ℕ) (laid : Laid (tables_layout book) t) where
  -- ── The tag, the counts and the book's mark ──

  pub tag_laid : number_at 8 t tag_at ≡ tables_tag
  unfolding tables_layout entry_length always
  tag_laid = field_at t (tables_layout book) laid 0 0 0 (omega arith) _ (omega arith)

  pub state_count_laid : state_count_in t ≡ state_count book
  unfolding tables_layout entry_length always
  state_count_laid = field_at t (tables_layout book) laid 1 0 0 (omega arith) _ (omega arith)

  pub piece_count_laid : piece_count_in t ≡ spot_count book
  unfolding tables_layout entry_length always
  piece_count_laid = field_at t (tables_layout book) laid 3 0 0 (omega arith) _ (omega arith)

  pub phrase_count_laid : phrase_count_in t ≡ length book.phrases
  unfolding tables_layout entry_length always
  phrase_count_laid = field_at t (tables_layout book) laid 4 0 0 (omega arith) _ (omega arith)

  pub mark_laid : mark_in t ≡ book_mark book
  unfolding tables_layout entry_length always
  mark_laid = field_at t (tables_layout book) laid 5 0 0 (omega arith) _ (omega arith)

  -- ── State i ──

  module _ (i : ℕ) (inside : i < state_count book) where
    pub info_laid : info_in t i ≡ info_of book i
    unfolding tables_layout entry_length
    info_laid = byte_at t (tables_layout book) laid 8 0 i (omega (arith, (fits book within).states)) _ (omega arith) refl ∙ up_to_below (state_count book) (info_of book) i inside

    pub out_laid : out_in t i ≡ out_of book i
    unfolding tables_layout entry_length
    out_laid = byte_at t (tables_layout book) laid 9 0 i (omega (arith, (fits book within).states)) _ (omega arith) refl ∙ up_to_below (state_count book) (out_of book) i inside

    pub label_laid : label_in t i ≡ label_of book i
    unfolding tables_layout entry_length
    label_laid = byte_at t (tables_layout book) laid 11 0 i (omega (arith, (fits book within).states)) _ (omega arith) refl ∙ up_to_below (state_count book) (label_of book) i inside

    pub fail_laid : fail_in t i ≡ failure_in book i
    unfolding tables_layout entry_length
    fail_laid = field_at t (tables_layout book) laid 12 0 i (omega (arith, (fits book within).states)) _ (omega arith) ∙ up_to_below (state_count book) (failure_in book) i inside

  -- One more than the states have a first child: there the children of the last one end.
  pub first_child_laid : (i : ℕ) → i ≤ state_count book → first_child_in t i ≡ first_child book i
  unfolding tables_layout entry_length
  first_child_laid i inside = field_at t (tables_layout book) laid 13 0 i (omega (arith, (fits book within).states)) _ (omega arith) ∙ up_to_below (state_count book + 1) (first_child book) i (omega arith)

  -- ── Piece p ──

  module _ (p : ℕ) (inside : p < spot_count book) where
    pub delay_laid : delay_in t p ≡ delay_of book p
    unfolding tables_layout entry_length
    delay_laid = field_at t (tables_layout book) laid 14 0 p (omega (arith, (fits book within).pieces)) _ (omega arith) ∙ up_to_below (spot_count book) (delay_of book) p inside

    pub span_laid : span_in t p ≡ span_of book p
    unfolding tables_layout entry_length
    span_laid = field_at t (tables_layout book) laid 14 1 p (omega (arith, (fits book within).pieces)) _ (omega arith) ∙ up_to_below (spot_count book) (span_of book) p inside

    pub link_laid : link_in t p ≡ link_of book p
    unfolding tables_layout entry_length
    link_laid = field_at t (tables_layout book) laid 14 2 p (omega (arith, (fits book within).pieces)) _ (omega arith) ∙ up_to_below (spot_count book) (link_of book) p inside

    pub rank_laid : rank_in t p ≡ rank_of book p
    unfolding tables_layout entry_length
    rank_laid = byte_at t (tables_layout book) laid 14 3 p (omega (arith, (fits book within).pieces)) _ (omega arith) refl ∙ up_to_below (spot_count book) (rank_of book) p inside

    pub ends_laid : ends_in t p ≡ ends_of book p
    unfolding tables_layout entry_length
    ends_laid = byte_at t (tables_layout book) laid 14 4 p (omega (arith, (fits book within).pieces)) _ (omega arith) refl ∙ up_to_below (spot_count book) (ends_of book) p inside

  -- ── The phrase of rank j ──

  module _ (j : ℕ) (inside : j < length book.phrases) where
    pub phrase_number_laid : phrase_number_in t j ≡ number_of_rank book j
    unfolding tables_layout entry_length
    phrase_number_laid = field_at t (tables_layout book) laid 15 0 j (omega (arith, (fits book within).phrases)) _ (omega arith) ∙ up_to_below (length book.phrases) (number_of_rank book) j inside

    pub phrase_rights_laid : phrase_rights_in t j ≡ rights_of_rank book j
    unfolding tables_layout entry_length
    phrase_rights_laid = byte_at t (tables_layout book) laid 15 1 j (omega (arith, (fits book within).phrases)) _ (omega arith) refl ∙ up_to_below (length book.phrases) (rights_of_rank book) j inside
