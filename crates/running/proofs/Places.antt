-- Of the next 256 places each has a slot of its own, since two places in one slot are at least 256 apart.
-- Assumes nothing.
use mathlib.Core.Path.{◌≡◌}
use Prim.Native.Nat.{ℕ, suc, ◌+◌, ◌%◌, ◌≤◌, ◌<◌}
use native.Mathlib.Omega.{arith}
use lib.Dec.{eqb}
use borrow.Author.Tests.{eq-eqb, eqb-true}
use Rattle.meaning.specs.Books.{Piece}
use Rattle.meaning.specs.Windows.{delay, opens_at}
use Rattle.meaning.proofs.Truth.{same_truth}
use Rattle.format.specs.Limits.{Between}
use Rattle.running.specs.Waiting.{slots, slot_for, place_in}

pub one_turn : (i e f : ℕ) → i < e → e ≤ i + slots → i < f → f ≤ i + slots → e % slots ≡ f % slots → e ≡ f
one_turn i e f a b c d h = omega arith

-- ── The place of a slot ──

pub record PlaceOf (i q place : ℕ) : Type 0 where
  pub later : i < place
  pub soon : place ≤ i + slots
  pub slot : place % slots ≡ q

pub place_in_lem : (i q : ℕ) → q < slots → PlaceOf i q (place_in i q)
unfolding place_in
place_in_lem i q h = record { later = omega arith; soon = omega arith; slot = omega arith }

-- There is no other.
pub place_only : (i q place : ℕ) → PlaceOf i q place → place_in i q ≡ place
unfolding place_in
place_only i q place h = omega arith

pub place_of_slot : (i place : ℕ) → i < place → place ≤ i + slots → place_in i (place % slots) ≡ place
unfolding place_in
place_of_slot i place a b = omega arith

-- ── One place on ──

-- The slot of the new place was that place's, and is now the last one's.
pub place_new : (i : ℕ) → (place_in i (suc i % slots) ≡ suc i) × (place_in (suc i) (suc i % slots) ≡ suc i + slots)
unfolding place_in
place_new i = (omega arith, omega arith)

-- Every other slot keeps its place.
pub place_kept : (i q : ℕ) → q < slots → (q ≡ suc i % slots → ⊥) → place_in (suc i) q ≡ place_in i q
unfolding place_in
place_kept i q h ne = omega arith

-- ── Where a piece waits ──

-- A piece waits in a slot exactly when its window opens at the place of that slot.
pub slot_for_lem : (piece : Piece) → Between 1 slots (delay piece) → (place q : ℕ) → q < slots
    → eqb q (slot_for piece place) ≡ eqb (place_in place q) (place + delay piece)
unfolding slot_for opens_at
slot_for_lem piece soon place q h = same_truth _ _ (
  λ u. let e : q ≡ slot_for piece place = eqb-true q (slot_for piece place) u in
      eq-eqb (place_in place q) (place + delay piece)
      (one_turn place (place_in place q) (place + delay piece) of.later of.soon (omega arith) (omega arith) (omega (arith, of.slot))),
  λ u. let e : place_in place q ≡ place + delay piece = eqb-true (place_in place q) (place + delay piece) u in
      eq-eqb q (slot_for piece place) (omega (arith, of.slot)),
)
  where
    of : PlaceOf place q (place_in place q)
    of = place_in_lem place q h
