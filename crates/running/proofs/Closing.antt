-- Whether a piece ends with the letter is told by the state and its closing place, and that place changes only where a window opens.
-- Assumes nothing.
use mathlib.Core.Path.{◌≡◌, refl, sym, ap, ◌∙◌}
use mathlib.Core.Bool.{Bool, true, false, cond, ◌&&◌}
use mathlib.Core.List.{List, [], ◌∷◌, ◌++◌, Memᴰ}
use mathlib.Core.Option.{Option, none, some}
use Prim.Native.Nat.{ℕ, suc, ◌+◌, ◌-◌, ◌≤◌, ◌<◌}
use native.Mathlib.Numerals.{add-one}
use native.Mathlib.Omega.{arith}
use lib.Dec.{leb}
use lib.ListN.{length, length-append}
use borrow.Author.Tests.{leb-true, le-leb, lt-leb}
use Rattle.meaning.specs.Books.{Gap, bounded, open_from, Piece, Book, keywords}
use Rattle.meaning.specs.Matching.{suffix, ends}
use Rattle.meaning.specs.Automaton.{is_state, after}
use Rattle.meaning.specs.Windows.{least_of, holds, not_past, newest, delay, opens_at}
use Rattle.meaning.proofs.Running.{ended_bytes, newest_step}
use Rattle.meaning.proofs.Cuts.{ends_kept}
use Rattle.format.specs.Limits.{GapWithin}
use Rattle.tables.specs.Spots.{Spot}
use Rattle.running.specs.Waiting.{never, closes_at, closing_from, closing_of, opens_from}

-- ── Whether a piece ends with the letter ──

-- A window is not past at a place exactly when its closing place is not.
not_past_closing : (gap : Gap) (previous long place : ℕ) → GapWithin gap → place ≤ never
    → not_past gap (previous + long) place ≡ leb place (closes_at gap (previous + (least_of gap + long)))
unfolding not_past closes_at least_of GapWithin
not_past_closing (bounded least most) previous long place within early = ap (leb place) (omega arith)
not_past_closing (open_from least) previous long place within early = sym (le-leb place never early)

open_closing : (piece : Piece) (place : ℕ) → GapWithin piece.gap → 0 < place → place ≤ never → (from : Option ℕ)
    → holds (λ previous. not_past piece.gap (previous + length piece.keyword) place) from ≡ leb place (closing_from piece from)
unfolding holds closing_from opens_at delay
open_closing piece place within read early none = sym (lt-leb place 0 read)
open_closing piece place within read early (some previous) = not_past_closing piece.gap previous (length piece.keyword) place within early

-- A piece ends with the letter exactly when its keyword is a suffix of the state and the place is not past its closing place.
pub spot_ended : (book : Book) (letter : List ℕ) (spot : Spot) → GapWithin spot.piece.gap
    → Memᴰ spot.piece.keyword (keywords book.phrases) → 0 < length letter → length letter ≤ never
    → ends length letter 0 (spot.before ++ spot.piece ∷ []) (length letter)
    ≡ suffix spot.piece.keyword (after (is_state book) letter) && leb (length letter) (closing_of spot letter)
unfolding closing_of
spot_ended book letter spot within listed read early =
    ended_bytes book letter spot.before spot.piece listed
    ∙ ap (λ v. suffix spot.piece.keyword (after (is_state book) letter) && v)
    (open_closing spot.piece (length letter) within read early (newest length letter spot.before spot.piece (length letter)))

-- ── One byte more ──

-- The window that opens at the new place replaces the closing place; where none opens there, it stays.
pub closing_step : (spot : Spot) (x : List ℕ) (a : ℕ) → 0 < delay spot.piece
    → closing_of spot (x ++ a ∷ []) ≡ cond (opens_from spot x (suc (length x))) (closes_at spot.piece.gap (suc (length x))) (closing_of spot x)
unfolding closing_of opens_from closing_from opens_at
closing_step spot x a late =
    rw (length-append x (a ∷ []), add-one, newest_step x a spot.before spot.piece, le-leb here (length x + delay spot.piece) (omega arith))
    (go (leb (delay spot.piece) here) refl)
  where
    here : ℕ
    here = suc (length x)

    k : ℕ
    k = delay spot.piece

    old : Option ℕ
    old = newest length x spot.before spot.piece (length x)

    pick : (v : Bool) → k ≤ here → closing_from spot.piece (cond v (some (here - k)) old) ≡ cond v (closes_at spot.piece.gap here) (closing_from spot.piece old)
    pick true h = let e : here - k + k ≡ here = omega arith in ap (closes_at spot.piece.gap) e
    pick false h = refl

    go : (v : Bool) → leb k here ≡ v
        → closing_from spot.piece (cond (v && ends length (x ++ a ∷ []) 0 spot.before (here - k)) (some (here - k)) old)
        ≡ cond (v && ends length x 0 spot.before (here - k)) (closes_at spot.piece.gap here) (closing_from spot.piece old)
    go true h = rw (ends_kept x (a ∷ []) length spot.before 0 (here - k) (omega arith)) (pick (ends length x 0 spot.before (here - k)) (leb-true k here h))
    go false h = refl
