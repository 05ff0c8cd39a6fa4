-- A failure is followed only to a smaller number, and a link only to a piece: each law is one side of the test.
-- Assumes nothing.
use mathlib.Core.Path.{◌≡◌, refl, sym, ap, ◌∙◌}
use mathlib.Core.Bool.{Bool, true, false}
use mathlib.Core.List.{List}
use Prim.Native.Nat.{ℕ, ◌+◌, ◌-◌, ◌≤◌, ◌<◌}
use native.Mathlib.Omega.{arith}
use lib.Dec.{ltb}
use Rattle.std.specs.Prelude.{Option, Some, None, SomeIff}
use borrow.Author.Tests.{lt-ltb, le-ltb, le-leb, lt-leb, ltb-true, ltb-false}
use Rattle.tables.specs.Layout.{room_for_pieces}
use Rattle.tables.specs.Reads.{out_in, ending_in, first_link_in, fail_in, back_in, link_in, onward_in, as_link}

module _ (t : List ℕ) where
  pub back_fail : (i : ℕ) → fail_in t i < i → back_in t i ≡ fail_in t i
  unfolding back_in
  back_fail i smaller = rw (lt-ltb (fail_in t i) i smaller)

  pub back_root : (i : ℕ) → i ≤ fail_in t i → back_in t i ≡ 0
  unfolding back_in
  back_root i larger = rw (le-ltb (fail_in t i) i larger)

  -- The same of the numbers that the code reads: the state's, once by its index, and what stands there.
  pub followed : {i j n fail r : ℕ} → j ≡ i → fail ≡ fail_in t j → n ≡ i → fail < n → r ≡ fail → (r ≡ back_in t i) × (r ≤ i)
  followed {i} {j} {n} {fail} same read own smaller said =
      let there : fail ≡ fail_in t i = read ∙ ap (fail_in t) same in
      (said ∙ there ∙ sym (back_fail i (omega arith)), omega arith)

  pub not_followed : {i j n fail r : ℕ} → j ≡ i → fail ≡ fail_in t j → n ≡ i → n ≤ fail → r ≡ 0 → (r ≡ back_in t i) × (r ≤ i)
  not_followed {i} {j} {n} {fail} same read own larger said =
      let there : fail ≡ fail_in t i = read ∙ ap (fail_in t) same in
      (said ∙ sym (back_root i (omega arith)), omega arith)

  pub back_below : (i : ℕ) → 0 < i → back_in t i < i
  back_below i some = go (ltb (fail_in t i) i) refl
    where
      go : (v : Bool) → ltb (fail_in t i) i ≡ v → back_in t i < i
      go true e = let smaller : fail_in t i < i = ltb-true (fail_in t i) i e in omega (arith, back_fail i smaller)
      go false e = omega (arith, back_root i (ltb-false (fail_in t i) i e))

  pub first_link_some : (i : ℕ) → ending_in t i ≡ true → first_link_in t i ≡ out_in t i + 1
  unfolding first_link_in
  first_link_some i e = rw e

  pub first_link_none : (i : ℕ) → ending_in t i ≡ false → first_link_in t i ≡ 0
  unfolding first_link_in
  first_link_none i e = rw e

  pub linked : (i : ℕ) {first : ℕ} {some : Bool} → some ≡ ending_in t i → some ≡ true → first ≡ out_in t i → first < room_for_pieces → (first + 1 ≡ first_link_in t i) × (first + 1 ≤ room_for_pieces)
  linked i says holds read small = (ap (λ (n : ℕ). n + 1) read ∙ sym (first_link_some i (sym says ∙ holds)), omega arith)

  pub onward_link : (p : ℕ) → link_in t p ≤ room_for_pieces → onward_in t p ≡ link_in t p
  unfolding onward_in
  onward_link p inside = rw (le-leb (link_in t p) room_for_pieces inside)

  pub onward_none : (p : ℕ) → room_for_pieces < link_in t p → onward_in t p ≡ 0
  unfolding onward_in
  onward_none p outside = rw (lt-leb (link_in t p) room_for_pieces outside)

-- Where a link is one to a piece, that piece is one less.
pub linked_on : (link : ℕ) (o : Option ℕ) → SomeIff o (1 ≤ link) (link - 1) → as_link o ≡ link
linked_on link None none = omega (arith, none)
linked_on link (Some p) some = omega (arith, some.0, some.1)
