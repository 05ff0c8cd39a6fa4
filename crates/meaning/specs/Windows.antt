-- Windows: when a piece has ended at a place, from where to where the next piece may end, and which window counts.
-- Widths are measured, so that what is said here holds for every measure that adds up. Assumes nothing: these are definitions.
use Rattle.std.specs.Prelude.{Bool, true, false, cond, ◌&&◌, List, ℕ, zero, suc, ◌+◌, ◌-◌, ◌≤◌, take}
use Rattle.std.proofs.Math.Bool.{So}
use Rattle.std.proofs.Math.Option.{Option, none, some}
use Rattle.std.proofs.Math.Dec.{leb}
use Rattle.std.proofs.Math.ListN.{length}
use Rattle.meaning.specs.Books.{Gap, bounded, open_from, Piece}
use Rattle.meaning.specs.Matching.{ends}

-- ── The latest of some numbers ──

-- The latest number up to n of which a test holds.
unfoldable pub latest : (ℕ → Bool) → ℕ → Option ℕ
latest test zero = cond (test zero) (some zero) none
latest test (suc n) = cond (test (suc n)) (some (suc n)) (latest test n)

-- What that says: the test holds of it and of no later number up to n; or it holds of none.
unfoldable pub Latest : (ℕ → Bool) → ℕ → Option ℕ → Type 0
Latest test n none = (k : ℕ) → k ≤ n → So (test k) → ⊥
Latest test n (some c) = So (test c) × (c ≤ n) × ((k : ℕ) → k ≤ n → So (test k) → k ≤ c)

-- There is a number, and a property holds of it.
unfoldable pub Holds : (ℕ → Type 0) → Option ℕ → Type 0
Holds P none = ⊥
Holds P (some c) = P c

unfoldable pub holds : (ℕ → Bool) → Option ℕ → Bool
holds test none = false
holds test (some c) = test c

-- ── A window ──

unfoldable pub least_of : Gap → ℕ
least_of (bounded least most) = least
least_of (open_from least) = least

-- What has been measured up to here is not past the window that began at a measure: an open gap's window never closes.
unfoldable pub NotPast : Gap → ℕ → ℕ → Type 0
NotPast (bounded least most) began here = here ≤ began + most
NotPast (open_from least) began here = Unit {0}

unfoldable pub not_past : Gap → ℕ → ℕ → Bool
not_past (bounded least most) began here = leb here (began + most)
not_past (open_from least) began here = true

module _ (width : List ℕ → ℕ) (letter : List ℕ) where
  -- How wide the letter's first bytes are, up to a place.
  unfoldable pub measured : ℕ → ℕ
  measured place = width (take place letter)

  -- The window that a piece has from a previous end has opened by a place: a keyword that ends there leaves at least the least width.
  unfoldable pub opened : Piece → ℕ → ℕ → Bool
  unfolding measured least_of
  opened piece place previous =
      leb (previous + length piece.keyword) place
      && leb (measured previous + least_of piece.gap) (measured (place - length piece.keyword))

  -- The newest window that a piece has after some pieces and that has opened by a place, told by the end from which it began.
  -- A window that has not opened yet does not count, however new it is.
  unfoldable pub newest : List Piece → Piece → ℕ → Option ℕ
  unfolding latest opened
  newest pieces piece place = latest (λ previous. ends width letter 0 pieces previous && opened piece place previous) place

  -- That window, if there is one, is not past for a keyword that ends at the place.
  unfoldable pub OpenAt : List Piece → Piece → ℕ → Type 0
  unfolding newest
  OpenAt pieces piece place =
      Holds (λ previous. NotPast piece.gap (measured previous) (measured (place - length piece.keyword))) (newest pieces piece place)

  unfoldable pub open_at : List Piece → Piece → ℕ → Bool
  unfolding newest holds not_past measured
  open_at pieces piece place =
      holds (λ previous. not_past piece.gap (measured previous) (measured (place - length piece.keyword))) (newest pieces piece place)

-- ── Counted in bytes ──

-- How many bytes after the previous end a piece may end first.
unfoldable pub delay : Piece → ℕ
unfolding least_of
delay piece = least_of piece.gap + length piece.keyword

-- The first place at which a piece may end after a previous end: that is where its window opens.
unfoldable pub opens_at : Piece → ℕ → ℕ
unfolding delay
opens_at piece previous = previous + delay piece
