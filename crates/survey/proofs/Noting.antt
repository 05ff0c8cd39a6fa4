-- With each keyword that is noted the list of the noted ones is longer by one, and the others stand where they were. Assumes nothing.
use mathlib.Core.Path.{◌≡◌, ◌∙◌}
use mathlib.Core.Logic.{◌⊎◌, inl, inr}
use mathlib.Core.List.{List, [], ◌∷◌, ◌++◌}
use Prim.Native.Nat.{ℕ, ◌+◌, ◌<◌}
use native.Mathlib.Omega.{arith}
use lib.ListN.{length, get_or, set, length-set, length-append, get_or-append}
use lib.Seq.{get_or-set_same, get_or-set_other, get_or-append_seam}
use Rattle.lent.proofs.Cases.{eq_or_ne}
use Rattle.tables.specs.Spots.{Spot, no_spot}
use Rattle.tables.specs.Layout.{room_for_pieces}
use Rattle.survey.specs.declared.stretch.Stretch.{Stretch}
use Rattle.survey.specs.Stretches.{nowhere}
use Rattle.survey.specs.Meant.{Located}

-- The keyword of each of some spots is noted where it stands.
pub record Noting (bytes : List ℕ) (spots : List Spot) (words : List Stretch) : Type 0 where
  pub words_room : length words ≡ room_for_pieces
  pub each : (p : ℕ) → p < length spots → Located bytes (get_or spots p no_spot).piece.keyword (get_or words p nowhere)

module _ (bytes : List ℕ) (spots : List Spot) (words : List Stretch) (noting : Noting bytes spots words) where
  -- One more keyword, behind the others.
  pub noting_more : (p : ℕ) → p ≡ length spots → p < room_for_pieces → (spot : Spot) (word : Stretch) → Located bytes spot.piece.keyword word
      → Noting bytes (spots ++ spot ∷ []) (set words p word)
  noting_more p is room spot word located = record {
    words_room = length-set words p word ∙ noting.words_room;
    each = λ q inside. by q (omega (arith, length-append spots (spot ∷ []))) (eq_or_ne q p);
  }
    where
      by : (q : ℕ) → q < length spots + 1 → (q ≡ p) ⊎ (q ≡ p → ⊥)
          → Located bytes (get_or (spots ++ spot ∷ []) q no_spot).piece.keyword (get_or (set words p word) q nowhere)
      by q inside (inl e) =
          rw (e, get_or-set_same words p word nowhere (omega (arith, noting.words_room)), is, get_or-append_seam spots spot [] no_spot) located
      by q inside (inr differ) =
          rw (get_or-set_other words p q word nowhere differ, get_or-append spots (spot ∷ []) no_spot q (omega arith)) (noting.each q (omega arith))
