-- One closing place per piece suffices: of the windows that have opened, the newest closes last, so if any is not past it is not.
-- Assumes nothing.
use mathlib.Core.Path.{◌≡◌, refl, ap, ◌∙◌}
use mathlib.Core.Logic.{◌↔◌}
use mathlib.Core.Bool.{Bool, So, ◌&&◌}
use mathlib.Core.List.{List, [], ◌∷◌, ◌++◌}
use Prim.Native.Nat.{ℕ, ◌+◌, ◌-◌, ◌≤◌}
use native.Mathlib.Omega.{arith}
use lib.ListN.{length, length-append}
use lib.Seq.{take-add}
use borrow.Author.Tests.{leb-true, le-leb}
use Rattle.meaning.specs.Books.{Gap, bounded, open_from, Piece, Book, width_in}
use Rattle.meaning.specs.Matching.{Admits, Fills, bytes_after, Follows, Ends, ends}
use Rattle.meaning.specs.Windows.{Holds, least_of, NotPast, not_past, measured, opened, newest, OpenAt, open_at}
use Rattle.meaning.proofs.Truth.{both, and_left, and_right}
use Rattle.meaning.proofs.Tests.{ends_iff}
use Rattle.meaning.proofs.Latest.{latest_enough, holds_iff}

-- Gaps are counted in bytes, and such widths add up.
pub width_is_length : (book : Book) → width_in book ≡ length
unfolding width_in
width_is_length book = refl

pub width_adds : (book : Book) (x y : List ℕ) → width_in book (x ++ y) ≡ width_in book x + width_in book y
unfolding width_in
width_adds book x y = length-append x y

-- ── A gap, by what is measured before it and up to its end ──

pub not_past_iff : (gap : Gap) (began here : ℕ) → So (not_past gap began here) ↔ NotPast gap began here
unfolding not_past NotPast
not_past_iff (bounded least most) began here = (leb-true _ _, le-leb _ _)
not_past_iff (open_from least) began here = (λ h. tt, λ h. refl)

-- A gap admits what lies between two measures exactly when its window from the first has opened and is not past at the second.
gap_window : (gap : Gap) (began between here : ℕ) → began + between ≡ here
    → Admits gap between ↔ ((began + least_of gap ≤ here) × NotPast gap began here)
unfolding least_of NotPast Admits
gap_window (bounded least most) began between here h = (λ a. omega arith, λ a. omega arith)
gap_window (open_from least) began between here h = (λ a. omega arith, λ a. omega arith)

-- A window that began later closes later.
not_past_later : (gap : Gap) (c d here : ℕ) → c ≤ d → NotPast gap c here → NotPast gap d here
unfolding NotPast
not_past_later (bounded least most) c d here h k = omega arith
not_past_later (open_from least) c d here h k = tt

module _ (width : List ℕ → ℕ) (letter : List ℕ) where
  -- ── The last of some pieces ──

  -- Pieces and one more end at a place exactly when the pieces end somewhere and the one more follows.
  pub ends_snoc : (pieces : List Piece) (piece : Piece) (previous place : ℕ)
      → Ends width letter previous (pieces ++ piece ∷ []) place
      ↔ ((end : ℕ) × Ends width letter previous pieces end × Follows width letter piece end place)
  unfolding Ends
  ends_snoc [] piece previous place = (
    λ h. (previous, refl, rw h.2 at h.1),
    λ h. (place, rw (← h.1) at h.2, refl),
  )
  ends_snoc (q ∷ pieces) piece previous place = (
    λ h. let r = (ends_snoc pieces piece h.0 place).0 h.2 in (r.0, (h.0, h.1, r.1), r.2),
    λ h. (h.1.0, h.1.1, (ends_snoc pieces piece h.1.0 place).1 (h.0, h.1.2, h.2)),
  )

  -- The test of an open window says what an open window is.
  pub open_at_iff : (pieces : List Piece) (piece : Piece) (place : ℕ)
      → So (open_at width letter pieces piece place) ↔ OpenAt width letter pieces piece place
  unfolding open_at OpenAt
  open_at_iff pieces piece place = holds_iff _ _
      (λ previous. not_past_iff piece.gap (measured width letter previous) (measured width letter (place - length piece.keyword)))
      (newest width letter pieces piece place)

  -- A window opens only after it began.
  opened_after : (piece : Piece) (place previous : ℕ) → So (opened width letter piece place previous) → previous ≤ place
  unfolding opened
  opened_after piece place previous h =
      let l : previous + length piece.keyword ≤ place = leb-true _ _ (search (and_left)) in
      omega arith

  module _ (adds : (x y : List ℕ) → width (x ++ y) ≡ width x + width y) where
    measured_between : (c n : ℕ) → measured width letter c + width (bytes_after c n letter) ≡ measured width letter (c + n)
    unfolding measured bytes_after
    measured_between c n = rw (take-add c n letter, adds)

    measured_later : (c d : ℕ) → c ≤ d → measured width letter c ≤ measured width letter d
    measured_later c d h = let e : c + (d - c) ≡ d = omega arith in rw (← e) (omega (arith, measured_between c (d - c)))

    -- A piece ends at a place after a previous end exactly when its keyword fills the bytes that end there and the window
    -- from that end has opened and is not past.
    pub follows_window : (piece : Piece) (previous place : ℕ)
        → Follows width letter piece previous place
        ↔ (Fills piece.keyword letter place
        × So (opened width letter piece place previous)
        × NotPast piece.gap (measured width letter previous) (measured width letter (place - length piece.keyword)))
    unfolding opened
    follows_window piece previous place = (
      λ f. let r = (window f.between (omega arith)).0 f.admitted in
          (f.filled, both _ _ (le-leb (previous + size) place (omega arith)) (le-leb (began + least_of piece.gap) here r.0), r.1),
      λ h. let l : previous + size ≤ place = leb-true _ _ (search (and_left)) in
          record {
            filled = h.0;
            between = place - size - previous;
            spans = omega arith;
            admitted = (window (place - size - previous) (omega arith)).1 (leb-true _ _ (search (and_right)), h.2);
          },
    )
      where
        size : ℕ
        size = length piece.keyword

        began : ℕ
        began = measured width letter previous

        here : ℕ
        here = measured width letter (place - size)

        window : (n : ℕ) → previous + n ≡ place - size
            → Admits piece.gap (width (bytes_after previous n letter))
            ↔ ((began + least_of piece.gap ≤ here) × NotPast piece.gap began here)
        window n e = gap_window piece.gap began _ here (measured_between previous n ∙ ap (measured width letter) e)

    -- Pieces end at a place, from the letter's start, exactly when the last one's keyword fills the bytes that end there and its
    -- newest window that has opened is not past.
    pub window_iff : (pieces : List Piece) (piece : Piece) (place : ℕ)
        → Ends width letter 0 (pieces ++ piece ∷ []) place ↔ (Fills piece.keyword letter place × OpenAt width letter pieces piece place)
    unfolding OpenAt
    window_iff pieces piece place = (
      λ m. let r = (ends_snoc pieces piece 0 place).0 m in
          let k = (follows_window piece r.0 place).0 r.2 in
          let both_hold : So (begins r.0) = both _ _ ((ends_iff width letter pieces 0 r.0).1 r.1) k.1 in
          (k.0, enough.0 (r.0, opened_after piece place r.0 k.1, both_hold, k.2)),
      λ m. let r = enough.1 m.1 in
          (ends_snoc pieces piece 0 place).1 (
            r.0,
            (ends_iff width letter pieces 0 r.0).0 (search (and_left)),
            (follows_window piece r.0 place).1 (m.0, search (and_right), r.3),
          ),
    )
      where
        begins : ℕ → Bool
        begins c = ends width letter 0 pieces c && opened width letter piece place c

        here : ℕ
        here = measured width letter (place - length piece.keyword)

        enough : ((c : ℕ) × (c ≤ place) × So (begins c) × NotPast piece.gap (measured width letter c) here)
            ↔ Holds (λ c. NotPast piece.gap (measured width letter c) here) (newest width letter pieces piece place)
        enough = latest_enough begins (λ c. NotPast piece.gap (measured width letter c) here)
            (λ c d l. not_past_later piece.gap (measured width letter c) (measured width letter d) here (measured_later c d l)) place
