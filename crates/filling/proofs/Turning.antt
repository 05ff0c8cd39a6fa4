-- One child and one turn at a time; a child that gets a number raises the count, so room for all is room for each.
-- Assumes nothing.
use mathlib.Core.Path.{◌≡◌, refl, ◌∙◌}
use mathlib.Core.Bool.{false≢true}
use mathlib.Core.Logic.{⊎_elim}
use mathlib.Core.List.{List}
use Prim.Native.Nat.{ℕ, zero, suc, ◌+◌, ◌≤◌, ◌<◌}
use native.Mathlib.Nat.{le-suc_iff}
use native.Mathlib.Numerals.{add-one}
use native.Mathlib.Omega.{arith}
use lib.ListN.{length, get_or}
use Rattle.std.specs.Prelude.{Option, Some, None, IsSome}
use Rattle.numbering.specs.States.{byte_values}
use Rattle.survey.specs.declared.stretch.Stretch.{Stretch}
use Rattle.filling.specs.Onward.{onward_from}
use Rattle.filling.specs.Turns.{Progress, progress, root, stretch_of, numbered_child, with_child, with_children, state_stretch, with_first, with_turn}

-- ── One child ──

child_grows : (count byte : ℕ) (noted : Option ℕ) (p : Progress) → p.states ≤ (with_child count byte noted p).states
unfolding with_child numbered_child
child_grows count byte None p = omega arith
child_grows count byte (Some keyword) p = omega arith

-- A child by a byte of which something is noted is one more.
child_one : (count byte : ℕ) (noted : Option ℕ) (p : Progress) → IsSome noted → (with_child count byte noted p).states ≡ p.states + 1
unfolding with_child numbered_child
child_one count byte None p some = absurd (false≢true some)
child_one count byte (Some keyword) p some = refl

-- ── The children of a state ──

module _ (count : ℕ) (onward : List (Option ℕ)) (p : Progress) where
  pub children_start : p ≡ with_children count onward 0 p
  unfolding with_children
  children_start = refl

  pub children_further : (byte : ℕ) (before now : Progress) → before ≡ with_children count onward byte p
      → now ≡ with_child count byte (get_or onward byte None) before → now ≡ with_children count onward (byte + 1) p
  unfolding with_children
  children_further byte before now e h = rw (add-one, ← e) h

  children_grow : (a b : ℕ) → a ≤ b → (with_children count onward a p).states ≤ (with_children count onward b p).states
  unfolding with_children
  children_grow a zero h = let e : a ≡ 0 = omega arith in rw e (omega arith)
  children_grow a (suc b) h = ⊎_elim
      (λ (l : a ≤ b). omega (arith, children_grow a b l, child_grows count b (get_or onward b None) (with_children count onward b p)))
      (λ (e : a ≡ suc b). rw e (omega arith))
      (le-suc_iff.0 h)

  -- Where a byte has something noted of it, there is room for its child if there is room for all.
  pub children_room : (byte bytes room : ℕ) → byte < bytes → (with_children count onward bytes p).states ≤ room
      → (now : Progress) → now ≡ with_children count onward byte p → (IsSome (get_or onward byte None)) → now.states < room
  unfolding with_children
  children_room byte bytes room l h now e some =
      let one : (with_child count byte (get_or onward byte None) (with_children count onward byte p)).states ≡ (with_children count onward byte p).states + 1
      = child_one count byte (get_or onward byte None) (with_children count onward byte p) some in
      rw e (omega (arith, one, children_grow (suc byte) bytes l))

-- ── One turn ──

module _ (text : List ℕ) (words : List Stretch) (i : ℕ) (p : Progress) (written : List ℕ) (onward : List (Option ℕ)) (state : Stretch)
    (first : progress written p.starts p.states ≡ with_first i p)
    (stands : state ≡ stretch_of words (get_or p.starts i root))
    (goes_on : onward ≡ onward_from text words state (length words)) where
  pub turn_is : with_children (state.count + 1) onward byte_values (progress written p.starts p.states) ≡ with_turn text words i p
  unfolding with_turn state_stretch stretch_of
  turn_is = rw (goes_on, stands, first) refl

  pub turn_taken : {after : Progress} → after ≡ with_children (state.count + 1) onward byte_values (progress written p.starts p.states)
      → after ≡ with_turn text words i p
  turn_taken numbered = numbered ∙ turn_is

  -- Room for all after the turn is room for its children.
  pub turn_room : (room : ℕ) → (with_turn text words i p).states ≤ room
      → (with_children (state.count + 1) onward byte_values (progress written p.starts p.states)).states ≤ room
  turn_room room h = rw turn_is h
