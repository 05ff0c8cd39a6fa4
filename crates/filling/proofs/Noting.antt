-- One keyword at a time: what is noted, once it is looked at, is the definition for one more.
-- Assumes nothing.
use mathlib.Core.Path.{◌≡◌, refl, ap}
use mathlib.Core.Bool.{true, false, ◌&&◌}
use mathlib.Core.List.{List, [], ◌∷◌}
use Prim.Native.Nat.{ℕ, ◌+◌, ◌≤◌, ◌<◌}
use native.Mathlib.Numerals.{add-one}
use native.Mathlib.Omega.{arith}
use lib.Dec.{ltb, eqb}
use lib.ListN.{length, get_or, set, take}
use lib.Pointwise.{pointwise}
use borrow.Author.Tests.{lt-ltb, le-ltb, ltb-true}
use Rattle.std.specs.Prelude.{Option, Some}
use Rattle.meaning.specs.Matching.{bytes_after, same}
use Rattle.meaning.proofs.Truth.{and_left}
use Rattle.survey.specs.declared.stretch.Stretch.{Stretch}
use Rattle.survey.specs.Stretches.{nowhere, bytes_of}
use Rattle.filling.specs.Onward.{goes_on, with_keyword, onward_from}
use Rattle.filling.proofs.Stretches.{length_after, after_take}

-- ── Comparing ──

-- Two lists that agree place by place are the same.
pub pointwise_same : (xs ys : List ℕ) → pointwise eqb xs ys ≡ same xs ys
unfolding same
pointwise_same [] [] = refl
pointwise_same [] (y ∷ ys) = refl
pointwise_same (x ∷ xs) [] = refl
pointwise_same (x ∷ xs) (y ∷ ys) = ap (λ b. eqb x y && b) (pointwise_same xs ys)

-- ── Noting ──

module _ (text : List ℕ) (state keyword : Stretch) where
  pub goes_on_short : keyword.count ≤ state.count → goes_on text state keyword ≡ false
  unfolding goes_on
  goes_on_short h = rw (le-ltb state.count keyword.count h)

  -- A longer keyword goes on if it starts with the bytes of the state.
  pub goes_on_starts
      : state.count < keyword.count → state.offset + state.count ≤ length text
      → goes_on text state keyword ≡ pointwise eqb (bytes_of text state) (take (length (bytes_of text state)) (bytes_of text keyword))
  unfolding goes_on bytes_of
  goes_on_starts longer inside =
      rw (
        lt-ltb state.count keyword.count longer,
        length_after text state.offset state.count inside,
        after_take text keyword.offset state.count keyword.count (omega arith),
        pointwise_same,
      )
      refl

  pub goes_on_longer : goes_on text state keyword ≡ true → state.count < keyword.count
  unfolding goes_on
  goes_on_longer h =
      ltb-true state.count keyword.count
      (and_left (ltb state.count keyword.count) (same (bytes_after state.offset state.count text) (bytes_after keyword.offset state.count text)) h)

  pub noted_not : (q : ℕ) (onward : List (Option ℕ)) → goes_on text state keyword ≡ false → with_keyword text state q keyword onward ≡ onward
  unfolding with_keyword
  noted_not q onward e = rw e

  pub noted
      : (q : ℕ) (onward : List (Option ℕ)) → goes_on text state keyword ≡ true
      → with_keyword text state q keyword onward ≡ set onward (get_or text (keyword.offset + state.count) 0) (Some q)
  unfolding with_keyword
  noted q onward e = rw e

pub onward_further
    : (text : List ℕ) (words : List Stretch) (state : Stretch) (q : ℕ) (onward now : List (Option ℕ))
    → onward ≡ onward_from text words state q → now ≡ with_keyword text state q (get_or words q nowhere) onward → now ≡ onward_from text words state (q + 1)
unfolding onward_from
onward_further text words state q onward now e h = rw (add-one, ← e) h
