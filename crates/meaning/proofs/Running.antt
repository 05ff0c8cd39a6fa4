-- One byte more: whether a piece ends with it is told by the state and by the piece's newest window, and that window by the one before.
-- Assumes nothing.
use mathlib.Core.Path.{◌≡◌, refl, sym, ap, ◌∙◌}
use mathlib.Core.Logic.{◌↔◌}
use mathlib.Core.Bool.{Bool, true, false, So, cond, ◌&&◌, false≢true}
use mathlib.Core.List.{List, [], ◌∷◌, ◌++◌, Memᴰ}
use mathlib.Core.Option.{some}
use Prim.Native.Nat.{ℕ, suc, ◌+◌, ◌-◌, ◌≤◌}
use native.Mathlib.Omega.{arith}
use lib.Dec.{leb}
use lib.ListN.{length, length-append}
use lib.Seq.{take-length, take-append-le}
use borrow.Author.Tests.{leb-true, leb-false}
use Rattle.meaning.specs.Books.{Piece, Book, width_in, keywords}
use Rattle.meaning.specs.Matching.{Fills, Ends, suffix, ends}
use Rattle.meaning.specs.Automaton.{Suffix, is_state, after}
use Rattle.meaning.specs.Windows.{holds, NotPast, not_past, measured, opened, newest, open_at, delay, opens_at}
use Rattle.meaning.proofs.Truth.{both, and_left, and_right, same_truth}
use Rattle.meaning.proofs.Tests.{suffix_iff, ends_iff}
use Rattle.meaning.proofs.States.{keyword_ends}
use Rattle.meaning.proofs.Latest.{latest_same, holds_iff}
use Rattle.meaning.proofs.Windows.{width_adds, not_past_iff, open_at_iff, window_iff}
use Rattle.meaning.proofs.WindowsInBytes.{newest_new, newest_old, window_bytes}
use Rattle.meaning.proofs.Cuts.{ends_kept}

-- ── Whether a piece ends with the letter ──

module _ (book : Book) (letter : List ℕ) (pieces : List Piece) (piece : Piece)
    (listed : Memᴰ piece.keyword (keywords book.phrases)) where
  -- What is said of the keyword and of some window, as two tests: the keyword is a suffix of the state, and the window's test holds.
  tested : (width : List ℕ → ℕ) (Window : Type 0) (window : Bool) → So window ↔ Window
      → Ends width letter 0 (pieces ++ piece ∷ []) (length letter) ↔ (Fills piece.keyword letter (length letter) × Window)
      → ends width letter 0 (pieces ++ piece ∷ []) (length letter) ≡ suffix piece.keyword (after (is_state book) letter) && window
  tested width Window window same parts = same_truth _ _ (
    λ h. let r = parts.0 ((ends_iff width letter (pieces ++ piece ∷ []) 0 (length letter)).0 h) in
        both _ _ (suffixed.1 (filled.0 r.0)) (same.1 r.1),
    λ h. let r : Fills piece.keyword letter (length letter) = filled.1 (suffixed.0 (search (and_left))) in
        (ends_iff width letter (pieces ++ piece ∷ []) 0 (length letter)).1 (parts.1 (r, same.0 (search (and_right)))),
  )
    where
      suffixed : So (suffix piece.keyword (after (is_state book) letter)) ↔ Suffix piece.keyword (after (is_state book) letter)
      suffixed = suffix_iff piece.keyword (after (is_state book) letter)

      filled : Fills piece.keyword letter (length letter) ↔ Suffix piece.keyword (after (is_state book) letter)
      filled = rw take-length at (keyword_ends book piece.keyword letter (length letter) listed (omega arith))

  -- The pieces end with the letter exactly when the last one's keyword is a suffix of the state and its window is open there.
  pub ended_now : ends (width_in book) letter 0 (pieces ++ piece ∷ []) (length letter)
      ≡ suffix piece.keyword (after (is_state book) letter) && open_at (width_in book) letter pieces piece (length letter)
  ended_now = tested (width_in book) _ _ (open_at_iff (width_in book) letter pieces piece (length letter))
      (window_iff (width_in book) letter (width_adds book) pieces piece (length letter))

  -- The same in bytes, by a closing place.
  pub ended_bytes : ends length letter 0 (pieces ++ piece ∷ []) (length letter)
      ≡ suffix piece.keyword (after (is_state book) letter)
      && holds (λ previous. not_past piece.gap (previous + length piece.keyword) (length letter))
      (newest length letter pieces piece (length letter))
  ended_bytes = tested length _ _ (holds_iff _ _ still (newest length letter pieces piece (length letter)))
      (window_bytes letter pieces piece (length letter))
    where
      still : (previous : ℕ) → So (not_past piece.gap (previous + length piece.keyword) (length letter))
          ↔ NotPast piece.gap (previous + length piece.keyword) (length letter)
      still previous = not_past_iff piece.gap (previous + length piece.keyword) (length letter)

-- ── The newest window ──

-- What was so for the letter x is so when bytes y follow.
measured_kept : (width : List ℕ → ℕ) (x y : List ℕ) (place : ℕ) → place ≤ length x → measured width (x ++ y) place ≡ measured width x place
unfolding measured
measured_kept width x y place l = ap width (take-append-le place x y l)

pub newest_kept : (width : List ℕ → ℕ) (x y : List ℕ) (pieces : List Piece) (piece : Piece) (place : ℕ) → place ≤ length x
    → newest width (x ++ y) pieces piece place ≡ newest width x pieces piece place
unfolding newest
newest_kept width x y pieces piece place l =
    latest_same
    (λ k. ends width (x ++ y) 0 pieces k && opened width (x ++ y) piece place k)
    (λ k. ends width x 0 pieces k && opened width x piece place k)
    place
    (λ k m. rw (ends_kept x y width pieces 0 k (omega arith), opened_kept k m))
  where
    opened_kept : (k : ℕ) → k ≤ place → opened width (x ++ y) piece place k ≡ opened width x piece place k
    opened_kept k m = rw (measured_kept width x y k (omega arith), measured_kept width x y (place - length piece.keyword) (omega arith))

-- The newest window with one byte more: the one that opens at the new place, if one does; else the one before.
pub newest_step : (x : List ℕ) (a : ℕ) (pieces : List Piece) (piece : Piece)
    → newest length (x ++ a ∷ []) pieces piece (suc (length x))
    ≡ cond (leb (delay piece) (suc (length x)) && ends length (x ++ a ∷ []) 0 pieces (suc (length x) - delay piece))
    (some (suc (length x) - delay piece)) (newest length x pieces piece (length x))
unfolding opens_at
newest_step x a pieces piece = go (leb (delay piece) here) refl (ends length now 0 pieces (here - delay piece)) refl
  where
    now : List ℕ
    now = x ++ a ∷ []

    here : ℕ
    here = suc (length x)

    inside : here ≤ length now
    inside = rw length-append (omega arith)

    old : ((previous : ℕ) → opens_at piece previous ≡ here → So (ends length now 0 pieces previous) → ⊥)
        → newest length now pieces piece here ≡ newest length x pieces piece (length x)
    old n = newest_old now pieces piece (length x) inside n ∙ newest_kept length x (a ∷ []) pieces piece (length x) (omega arith)

    go : (v : Bool) → leb (delay piece) here ≡ v → (w : Bool) → ends length now 0 pieces (here - delay piece) ≡ w
        → newest length now pieces piece here ≡ cond (v && w) (some (here - delay piece)) (newest length x pieces piece (length x))
    go true h true e = newest_new now pieces piece (length x) inside (here - delay piece) (omega (arith, leb-true)) e
    go true h false e = old (λ c q m. let z : c ≡ here - delay piece = omega arith in false≢true (sym e ∙ (rw z at m)))
    go false h w e = old (λ c q m. omega (arith, leb-false))
