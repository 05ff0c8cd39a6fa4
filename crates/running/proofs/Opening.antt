-- The places at which windows open, with one byte more: those of before, and one more where the pieces before end with that byte.
-- Assumes nothing.
use mathlib.Core.Path.{◌≡◌, refl, sym}
use mathlib.Core.Bool.{Bool, true, false, ◌&&◌, ◌||◌, and-false, or-false}
use mathlib.Core.List.{List, [], ◌∷◌, ◌++◌}
use Prim.Native.Nat.{ℕ, suc, ◌+◌, ◌-◌, ◌≤◌, ◌<◌}
use native.Mathlib.Numerals.{add-one}
use native.Mathlib.Omega.{arith}
use lib.Dec.{leb, eqb}
use lib.ListN.{length, length-append}
use borrow.Author.Tests.{leb-true, leb-false, lt-leb, eq-eqb, ne_eqb}
use Rattle.meaning.specs.Matching.{ends}
use Rattle.meaning.specs.Windows.{delay}
use Rattle.meaning.proofs.Cuts.{ends_kept}
use Rattle.tables.specs.Spots.{Spot}
use Rattle.running.specs.Waiting.{opens_from}

-- A window opens at a later place, with one byte more, exactly when it would have opened there or begins at the new place and opens there.
pub opening_step : (spot : Spot) (x : List ℕ) (a : ℕ) → 0 < delay spot.piece → (place : ℕ) → suc (length x) < place
    → opens_from spot (x ++ a ∷ []) place
    ≡ opens_from spot x place || (eqb place (suc (length x) + delay spot.piece) && ends length (x ++ a ∷ []) 0 spot.before (suc (length x)))
unfolding opens_from
opening_step spot x a late place h =
    rw (length-append x (a ∷ []), add-one) (go (leb k place) refl (leb place (length x + k)) refl (leb place (here + k)) refl)
  where
    here : ℕ
    here = suc (length x)

    k : ℕ
    k = delay spot.piece

    begins : Bool
    begins = ends length (x ++ a ∷ []) 0 spot.before here

    go : (u : Bool) → leb k place ≡ u → (v : Bool) → leb place (length x + k) ≡ v → (w : Bool) → leb place (here + k) ≡ w
        → u && (w && ends length (x ++ a ∷ []) 0 spot.before (place - k))
        ≡ (u && (v && ends length x 0 spot.before (place - k))) || (eqb place (here + k) && begins)
    go false p v q w r = rw (ne_eqb place (here + k) (λ e. omega (arith, leb-false k place p)))
    go true p true q true r =
        let l : place ≤ length x + k = leb-true place (length x + k) q in
        rw (ne_eqb place (here + k) (λ e. omega arith), ends_kept x (a ∷ []) length spot.before 0 (place - k) (omega arith)) (sym (or-false _))
    go true p true q false r = absurd (omega (arith, leb-true place (length x + k) q, leb-false place (here + k) r))
    go true p false q true r =
        let e : place ≡ here + k = omega (arith, leb-false place (length x + k) q, leb-true place (here + k) r) in
        let b : place - k ≡ here = omega arith in
        rw (eq-eqb place (here + k) e, b)
    go true p false q false r = rw (ne_eqb place (here + k) (λ e. omega (arith, leb-false place (here + k) r)))

-- No window opens later than the delay allows after the last byte.
pub none_opens : (spot : Spot) (x : List ℕ) (place : ℕ) → length x + delay spot.piece < place → opens_from spot x place ≡ false
unfolding opens_from
none_opens spot x place h = rw (lt-leb place (length x + delay spot.piece) h) (and-false (leb (delay spot.piece) place))
