-- The test stops at the first thing that is wrong; tables of a book within the limits have nothing wrong, and zeroed memory has no tag.
-- Assumes nothing.
use mathlib.Core.Path.{◌≡◌, refl, sym, ap, ◌∙◌}
use mathlib.Core.Logic.{◌↔◌}
use mathlib.Core.Bool.{Bool, false, So, and-eq-true_iff}
use mathlib.Core.List.{List, []}
use Prim.Native.Nat.{ℕ, zero, suc, ◌≤◌, ◌<◌}
use native.Mathlib.Omega.{arith}
use lib.Dec.{leb}
use lib.ListN.{length}
use borrow.Author.Tests.{leb-true, le-leb, lt-leb, eqb-true, eq-eqb, ne_eqb}
use Rattle.lent.specs.Numbers.{number_at}
use Rattle.lent.specs.Zeros.{Zero}
use Rattle.meaning.specs.Books.{Book}
use Rattle.meaning.specs.Automaton.{is_state}
use Rattle.meaning.proofs.Truth.{both, untrue}
use Rattle.meaning.proofs.States.{keyword_state}
use Rattle.format.specs.Limits.{Within}
use Rattle.format.specs.Faults.{between}
use Rattle.format.proofs.Bodies.{between_iff}
use Rattle.numbering.specs.States.{state_count, state_at, number_in}
use Rattle.numbering.proofs.Keywords.{within_bytes}
use Rattle.numbering.proofs.States.{number_below, state_at_number, state_at_empty}
use Rattle.tables.specs.Regions.{Laid}
use Rattle.tables.specs.Spots.{spot_count}
use Rattle.tables.specs.Endings.{keyword_of}
use Rattle.tables.specs.Layout.{tables_size, tag_at, room_for_states, room_for_pieces, room_for_phrases, tables_tag, tables_layout}
use Rattle.tables.specs.Reads.{state_count_in, dense_in, piece_count_in, phrase_count_in}
use Rattle.tables.specs.Passing.{TablesPass, counts_pass, tables_pass}
use Rattle.tables.proofs.Spots.{placed}
use Rattle.tables.proofs.Fits.{fits}
use Rattle.tables.proofs.Parts.{number_zero}
use Rattle.tables.proofs.Classes.{dense_range}
use Rattle.tables.proofs.Fast.{dense_laid}
use Rattle.tables.proofs.Fields.{tag_laid, state_count_laid, piece_count_laid, phrase_count_laid}

-- ── One test after the other ──

pub between_low : (low high n : ℕ) → low ≤ n → between low high n ≡ leb n high
unfolding between
between_low low high n h = rw (le-leb low n h)

pub between_under : (low high n : ℕ) → n < low → between low high n ≡ false
unfolding between
between_under low high n h = rw (lt-leb low n h)

-- What is said of a number as it was read is said of the number that stands there.
pub tested : (low : ℕ) {high high' n n' : ℕ} {b v : Bool} → b ≡ between low high n → high ≡ high' → n ≡ n' → b ≡ v → between low high' n' ≡ v
tested low e h m w = rw (← h, ← m) (sym e ∙ w)

module _ (t : List ℕ) where
  pub pass_short : length t < 49152 → tables_pass t ≡ false
  unfolding tables_pass tables_size
  pass_short h = rw (lt-leb 49152 (length t) h)

  pub pass_tag : 49152 ≤ length t → (number_at 8 t tag_at ≡ tables_tag → ⊥) → tables_pass t ≡ false
  unfolding tables_pass tables_size
  pass_tag long h = rw (le-leb 49152 (length t) long, ne_eqb (number_at 8 t tag_at) tables_tag h)

  pub pass_counts : 49152 ≤ length t → number_at 8 t tag_at ≡ tables_tag → tables_pass t ≡ counts_pass t
  unfolding tables_pass tables_size
  pass_counts long tag = rw (le-leb 49152 (length t) long, eq-eqb (number_at 8 t tag_at) tables_tag tag)

  pub counts_states : between 2 room_for_states (state_count_in t) ≡ false → counts_pass t ≡ false
  unfolding counts_pass
  counts_states h = rw h

  module _ (states : So (between 2 room_for_states (state_count_in t))) where
    pub counts_dense : between 1 (state_count_in t) (dense_in t) ≡ false → counts_pass t ≡ false
    unfolding counts_pass
    counts_dense h = rw (states, h)

    module _ (dense : So (between 1 (state_count_in t) (dense_in t))) where
      pub counts_pieces : between 1 room_for_pieces (piece_count_in t) ≡ false → counts_pass t ≡ false
      unfolding counts_pass
      counts_pieces h = rw (states, dense, h)

      pub counts_phrases : So (between 1 room_for_pieces (piece_count_in t)) → counts_pass t ≡ between 1 room_for_phrases (phrase_count_in t)
      unfolding counts_pass
      counts_phrases h = rw (states, dense, h)

-- ── What passes ──

-- The test says what the statement beside it says.
pub pass_iff : (t : List ℕ) → So (tables_pass t) ↔ TablesPass t
unfolding tables_pass
pass_iff t = (
  λ h. let a = (and-eq-true_iff _ _).0 h in
      let b = (and-eq-true_iff _ _).0 a.1 in
      let c = (and-eq-true_iff _ _).0 b.1 in
      let d = (and-eq-true_iff _ _).0 c.1 in
      let e = (and-eq-true_iff _ _).0 d.1 in
      record {
        long = leb-true tables_size (length t) a.0;
        tag = eqb-true (number_at 8 t tag_at) tables_tag b.0;
        states = (between_iff 2 room_for_states (state_count_in t)).0 c.0;
        dense = (between_iff 1 (state_count_in t) (dense_in t)).0 d.0;
        pieces = (between_iff 1 room_for_pieces (piece_count_in t)).0 e.0;
        phrases = (between_iff 1 room_for_phrases (phrase_count_in t)).0 e.1;
      },
  λ h. both _ _ (le-leb tables_size (length t) h.long)
      (both _ _ (eq-eqb (number_at 8 t tag_at) tables_tag h.tag)
      (both _ _ ((between_iff 2 room_for_states (state_count_in t)).1 h.states)
      (both _ _ ((between_iff 1 (state_count_in t) (dense_in t)).1 h.dense)
      (both _ _ ((between_iff 1 room_for_pieces (piece_count_in t)).1 h.pieces)
      ((between_iff 1 room_for_phrases (phrase_count_in t)).1 h.phrases))))),
)

-- A book within the limits has a piece, and with its keyword a state that is not empty.
module _ (book : Book) (within : Within book) where
  some_piece : 0 < spot_count book
  some_piece = let last = (placed book within).final 0 within.some in omega (arith, last.1)

  pub two_states : 2 ≤ state_count book
  unfolding keyword_of
  two_states = go (number_in book keyword) refl
    where
      keyword : List ℕ
      keyword = keyword_of book 0

      state : So (is_state book keyword)
      state = keyword_state book keyword ((placed book within).listed 0 some_piece)

      go : (i : ℕ) → number_in book keyword ≡ i → 2 ≤ state_count book
      go zero e =
          let empty : keyword ≡ [] = sym (state_at_number book (within_bytes book within) keyword state) ∙ ap (state_at book) e ∙ state_at_empty book in
          absurd (omega (arith, ((placed book within).within 0 some_piece).long.0, ap length empty))
      go (suc i) e = omega (arith, number_below book (within_bytes book within) keyword state)

  -- The tables of a book within the limits pass.
  pub laid_pass : (t : List ℕ) → tables_size ≤ length t → Laid (tables_layout book) t → So (tables_pass t)
  laid_pass t long laid = (pass_iff t).1 (record {
    long = long;
    tag = tag_laid book within t laid;
    states = rw (state_count_laid book within t laid) (two_states, (fits book within).states);
    dense = rw (state_count_laid book within t laid, dense_laid book within t laid) (dense_range book);
    pieces = rw (piece_count_laid book within t laid) (some_piece, (fits book within).pieces);
    phrases = rw (phrase_count_laid book within t laid) (within.some, (fits book within).phrases);
  })

-- Memory that is zero up to the published size does not pass.
pub zero_fails : (t : List ℕ) → Zero 0 tables_size t → tables_pass t ≡ false
unfolding tables_size tables_tag
zero_fails t zeros = untrue (tables_pass t) (λ h. omega (arith, ((pass_iff t).0 h).tag, number_zero 8 t tag_at (λ k a b. zeros k (omega arith) (omega arith))))
