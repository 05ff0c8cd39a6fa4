-- Before the first byte: a keyword has a byte, so no piece has ended and no window has opened, and only first pieces wait.
-- Assumes nothing.
use mathlib.Core.Path.{◌≡◌, refl, sym, ap, ◌∙◌}
use mathlib.Core.Logic.{◌↔◌, ⊎_elim}
use mathlib.Core.Bool.{Bool, true, false, So, ◌&&◌, false≢true, and-false}
use mathlib.Core.List.{List, [], ◌∷◌, ◌++◌}
use Prim.Native.Nat.{ℕ, zero, suc, ◌+◌, ◌-◌, ◌≤◌, ◌<◌}
use native.Mathlib.Numerals.{add-one}
use native.Mathlib.Omega.{arith}
use lib.Dec.{leb, eqb}
use lib.ListN.{length}
use borrow.Author.Tests.{leb-true, le-leb, lt-leb, eq-eqb, eqb-true, lt-ltb, le-ltb}
use Rattle.lent.proofs.Cases.{lt_or_le}
use Rattle.meaning.specs.Books.{Piece, Book}
use Rattle.meaning.specs.Matching.{ends}
use Rattle.meaning.specs.Windows.{latest, opened, newest, delay}
use Rattle.meaning.proofs.Truth.{both, and_left, and_right, same_truth}
use Rattle.meaning.proofs.Tests.{ends_iff}
use Rattle.meaning.proofs.Windows.{ends_snoc}
use Rattle.format.specs.Limits.{Within}
use Rattle.tables.specs.Spots.{none_left, spot_at, spot_count, Placed}
use Rattle.tables.proofs.Spots.{placed}
use Rattle.tables.proofs.Fields.{up_to_below, up_to_past}
use Rattle.running.specs.Waiting.{slots, slot_for, closing_from, closing_of, opens_from, place_in}
use Rattle.running.specs.Layout.{closing_in}
use Rattle.running.specs.Kept.{Kept, waiting_first}
use Rattle.running.proofs.Places.{slot_for_lem}
use Rattle.running.proofs.Entries.{waits_below, waits_past}

none_left_iff : (pieces : List Piece) → So (none_left pieces) ↔ (pieces ≡ [])
unfolding none_left
none_left_iff [] = (λ h. refl, λ e. refl)
none_left_iff (piece ∷ rest) = (λ h. absurd (false≢true h), λ e. cc)

module _ (book : Book) (limits : Within book) where
  abbrev count : ℕ
  count = spot_count book

  order : Placed book
  order = placed book limits

  none_opened : (p : ℕ) → p < count → closing_of (spot_at book p) [] ≡ 0
  unfolding closing_of newest latest opened closing_from
  none_opened p h =
      let long : ℕ = 0 + length (spot_at book p).piece.keyword in
      rw (lt-leb long 0 (omega (arith, (order.within p h).long)), and-false (ends length [] 0 (spot_at book p).before 0))

  -- Pieces before another end at place 0 only where there are none.
  first_only : (p : ℕ) → p < count → So (ends length [] 0 (spot_at book p).before 0) → (spot_at book p).before ≡ []
  first_only zero h u = order.start
  first_only (suc p) h u = go (spot_at book p).last refl
    where
      go : (v : Bool) → (spot_at book p).last ≡ v → (spot_at book (suc p)).before ≡ []
      go true e = rw add-one at (order.fresh p (omega arith) e)
      go false e =
          let c : (spot_at book (suc p)).before ≡ (spot_at book p).before ++ (spot_at book p).piece ∷ [] = rw add-one at (order.chain p (omega arith) e).1 in
          let k = (ends_iff length [] ((spot_at book p).before ++ (spot_at book p).piece ∷ []) 0 0).0 (rw c at u) in
          let r = (ends_snoc length [] (spot_at book p).before (spot_at book p).piece 0 0).0 k in
          absurd (omega (arith, r.2.spans, (order.within p (omega arith)).long))

  -- A first piece waits in a slot exactly when its window opens at the place of that slot.
  first_waits : (q p : ℕ) → q < slots → p < count
      → none_left (spot_at book p).before && eqb q (slot_for (spot_at book p).piece 0) ≡ opens_from (spot_at book p) [] (place_in 0 q)
  unfolding opens_from
  first_waits q p s h = ap (λ v. first && v) (slot_for_lem (spot_at book p).piece (order.soon p h) 0 q s) ∙ same_truth (first && at) (reached && (near && ended)) (
    λ u. let e : place ≡ 0 + late = eqb-true place (0 + late) (and_right first at u) in
        let none : (spot_at book p).before ≡ [] = (none_left_iff (spot_at book p).before).0 (and_left first at u) in
        both reached (near && ended) (le-leb late place (omega arith))
        (both near ended (le-leb place (0 + late) (omega arith)) (start (spot_at book p).before none (place - late) (omega arith))),
    λ u. let rest = and_right reached (near && ended) u in
        let a : late ≤ place = leb-true late place (and_left reached (near && ended) u) in
        let b : place ≤ 0 + late = leb-true place (0 + late) (and_left near ended rest) in
        let z : place - late ≡ 0 = omega arith in
        let none : (spot_at book p).before ≡ [] = first_only p h (rw z at (and_right near ended rest)) in
        both first at ((none_left_iff (spot_at book p).before).1 none) (eq-eqb place (0 + late) (omega arith)),
  )
    where
      place : ℕ
      place = place_in 0 q

      late : ℕ
      late = delay (spot_at book p).piece

      first : Bool
      first = none_left (spot_at book p).before

      at : Bool
      at = eqb place (0 + late)

      reached : Bool
      reached = leb late place

      near : Bool
      near = leb place (0 + late)

      ended : Bool
      ended = ends length [] 0 (spot_at book p).before (place - late)

      start : (pieces : List Piece) → pieces ≡ [] → (k : ℕ) → k ≡ 0 → So (ends length [] 0 pieces k)
      start pieces e k z = rw (e, z)

  -- What is kept before the first byte: no closing place, and the first pieces at their delays.
  pub kept_begin : Kept book [] (λ p. 0) (waiting_first book)
  unfolding waiting_first closing_in
  kept_begin = record {
    close = λ p r. sym (⊎_elim
        (λ (h : p < count). up_to_below count (closing_in book []) p h ∙ none_opened p h)
        (λ (h : count ≤ p). up_to_past count (closing_in book []) p h)
        (lt_or_le p count));
    wait = λ q p s r. ⊎_elim
        (λ (h : p < count). rw (lt-ltb p count h) (first_waits q p s h) ∙ sym (waits_below book [] q p h))
        (λ (h : count ≤ p). rw (le-ltb p count h) refl ∙ sym (waits_past book [] q p h))
        (lt_or_le p count);
  }
