-- What the tables of a book say of a piece is what its spot says, and the pieces of a state are those whose keyword is a suffix of it.
-- Assumes nothing.
use mathlib.Core.Path.{◌≡◌, refl, ap, ◌∙◌}
use mathlib.Core.Bool.{So}
use mathlib.Core.List.{List}
use Prim.Native.Nat.{ℕ, ◌-◌, ◌<◌}
use native.Mathlib.Omega.{arith}
use lib.Dec.{eqb}
use borrow.Author.Tests.{ne_eqb, eq-eqb, eqb-true}
use Rattle.meaning.specs.Books.{Gap, bounded, open_from, Book}
use Rattle.meaning.specs.Matching.{suffix}
use Rattle.meaning.specs.Automaton.{is_state, some_of}
use Rattle.meaning.specs.Windows.{delay}
use Rattle.meaning.proofs.Truth.{same_truth}
use Rattle.meaning.proofs.Tests.{suffix_iff}
use Rattle.meaning.proofs.States.{some_of_iff}
use Rattle.format.specs.Limits.{GapWithin, Within}
use Rattle.numbering.specs.States.{number_in}
use Rattle.numbering.proofs.Keywords.{within_bytes}
use Rattle.numbering.proofs.States.{number_below, state_at_number}
use Rattle.tables.specs.Regions.{Laid}
use Rattle.tables.specs.Spots.{none_left, spot_at, spot_count}
use Rattle.tables.specs.Endings.{endings, keyword_of}
use Rattle.tables.specs.Layout.{tables_layout, delay_of, gap_span, span_of, rank_of}
use Rattle.tables.specs.Reads.{delay_in, span_in, rank_in, last_in, first_in}
use Rattle.tables.proofs.Spots.{placed}
use Rattle.tables.proofs.Endings.{endings_iff}
use Rattle.tables.proofs.Fields.{delay_laid, span_laid, rank_laid}
use Rattle.tables.proofs.Meant.{last_laid, first_laid, chain_laid}
use Rattle.running.specs.Waiting.{closes_at}
use Rattle.window.specs.Opening.{open_span, closes_after}
use Rattle.window.specs.Ending.{pieces_in}

module _ (book : Book) (limits : Within book) (t : List ℕ) (laid : Laid (tables_layout book) t) where
  -- ── A piece ──

  module _ (p : ℕ) (inside : p < spot_count book) where
    pub delay_spot : delay_in t p ≡ delay (spot_at book p).piece
    unfolding delay_of
    delay_spot = delay_laid book limits t laid p inside

    -- A window that opens at a place closes where its gap says: a span is less than what stands for an open gap.
    pub closes_spot : (place : ℕ) → closes_after (span_in t p) place ≡ closes_at (spot_at book p).piece.gap place
    unfolding span_of gap_span closes_after closes_at GapWithin
    closes_spot place = ap (λ (span : ℕ). closes_after span place) (span_laid book limits t laid p inside) ∙ go (spot_at book p).piece.gap ((placed book limits).within p inside).gap
      where
        go : (gap : Gap) → GapWithin gap → closes_after (gap_span gap) place ≡ closes_at gap place
        go (bounded least most) within = rw (ne_eqb (most - least) open_span (λ e. omega arith))
        go (open_from least) within = refl

    pub last_spot : last_in t p ≡ (spot_at book p).last
    last_spot = last_laid book limits t laid p inside

    pub first_spot : first_in t p ≡ none_left (spot_at book p).before
    first_spot = first_laid book limits t laid p inside

    pub rank_spot : rank_in t p ≡ (spot_at book p).rank
    unfolding rank_of
    rank_spot = rank_laid book limits t laid p inside

  -- ── The pieces of a state ──

  pub pieces_state : (u : List ℕ) → So (is_state book u) → pieces_in t (number_in book u) ≡ endings book u
  unfolding pieces_in
  pieces_state u state =
      let bytes = within_bytes book limits in
      chain_laid book limits t laid (number_in book u) (number_below book bytes u state) ∙ ap (endings book) (state_at_number book bytes u state)

-- A piece is one of those that end in a state exactly when its keyword is a suffix of the state.
pub ends_suffix : (book : Book) (u : List ℕ) (p : ℕ) → p < spot_count book
    → some_of (eqb p) (endings book u) ≡ suffix (spot_at book p).piece.keyword u
unfolding keyword_of
ends_suffix book u p inside = same_truth _ _ (
  λ h. let r = (some_of_iff (eqb p) (endings book u)).0 h in
      let e : p ≡ r.0 = eqb-true p r.0 r.2 in
      (suffix_iff (spot_at book p).piece.keyword u).1 ((endings_iff book u p).0 (rw e r.1)).1,
  λ h. (some_of_iff (eqb p) (endings book u)).1 (p, (endings_iff book u p).1 (inside, (suffix_iff (spot_at book p).piece.keyword u).0 h), eq-eqb p p refl),
)
