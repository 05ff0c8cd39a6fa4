-- One turn at a time: a search goes on where the label is another, and a walk goes on from a failure, which has a smaller number.
-- Assumes nothing.
use mathlib.Core.Path.{◌≡◌, refl, sym, ap, ap₂, ◌∙◌}
use mathlib.Core.List.{List}
use Prim.Native.Nat.{ℕ, suc, ◌+◌, ◌-◌, ◌≤◌, ◌<◌}
use native.Mathlib.Omega.{arith}
use borrow.Author.Tests.{eq-eqb, ne_eqb}
use Rattle.std.specs.Prelude.{Option, Some, None, unwrap_or}
use Rattle.counters.specs.declared.State.{State}
use Rattle.numbering.specs.Walks.{Landed}
use Rattle.numbering.proofs.Walks.{walk_forward, walk_root, walk_back, walk_enough}
use Rattle.tables.specs.Reads.{label_in, back_in}
use Rattle.tables.proofs.Followed.{back_below}
use Rattle.stepping.specs.Steps.{labelled_in, number_or_root, child_by_in, next_in}

-- ── The search for a label ──

-- The state at hand has the number i.
module _ (t : List ℕ) (byte i to state : ℕ) (is : state ≡ i) (more : i < to) where
  pub search_found : label_in t state ≡ byte → labelled_in t byte (to - i) i ≡ state
  unfolding labelled_in
  search_found h =
      let e : to - i ≡ suc (to - (i + 1)) = omega arith in
      rw (e, eq-eqb (label_in t i) byte (rw is at h), is)

  pub search_further : (label_in t state ≡ byte → ⊥) → labelled_in t byte (to - i) i ≡ labelled_in t byte (to - (i + 1)) (i + 1)
  unfolding labelled_in
  search_further h =
      let e : to - i ≡ suc (to - (i + 1)) = omega arith in
      rw (e, ne_eqb (label_in t i) byte (rw is at h))

pub search_end : (t : List ℕ) (byte i to : ℕ) → to ≤ i → labelled_in t byte (to - i) i ≡ 0
unfolding labelled_in
search_end t byte i to l = let e : to - i ≡ 0 = omega arith in rw e

-- Going on from the root where nothing was found takes the number that the definitions have.
pub or_root : (found : Option State) (root : State) → root.0 ≡ 0 → (unwrap_or found root).0 ≡ number_or_root found
or_root None root is = is
or_root (Some state) root is = refl

-- ── The walk along failures ──

same_landing : {l m : Landed} → l.at ≡ m.at → l.taken ≡ m.taken → l ≡ m
same_landing p q = ap₂ {C = Landed} (λ at taken. record { at = at; taken = taken }) p q

-- A step that begins with so many failures, and then lands.
abbrev pub later : ℕ → Landed → Landed
later steps l = record { at = l.at; taken = steps + l.taken }

module _ (t : List ℕ) (states byte : ℕ) where
  pub next_forward : (i : ℕ) → (child_by_in t states i byte ≡ 0 → ⊥) → next_in t states i byte ≡ record { at = child_by_in t states i byte; taken = 0 }
  unfolding next_in
  next_forward i h = walk_forward (child_by_in t states) (back_in t) i i byte h

  pub next_root : (i : ℕ) → i ≡ 0 → child_by_in t states i byte ≡ 0 → next_in t states i byte ≡ record { at = 0; taken = 0 }
  unfolding next_in
  next_root i e h = rw e (walk_root (child_by_in t states) (back_in t) 0 byte (rw e at h))

  pub next_back : (i : ℕ) → 0 < i → child_by_in t states i byte ≡ 0 → next_in t states i byte ≡ later 1 (next_in t states (back_in t i) byte)
  unfolding next_in
  next_back i p h =
      let smaller : back_in t i < i = back_below t i p in
      walk_back (child_by_in t states) (back_in t) i i byte h p
      ∙ ap {B = Landed} (λ (l : Landed). record { at = l.at; taken = suc l.taken })
      (walk_enough (child_by_in t states) (back_in t) (back_below t) i (suc (back_in t i)) (back_in t i) byte smaller (omega arith))
      ∙ same_landing refl (omega arith)

-- So many failures were taken, and the walk stands at a state: it lands where the whole walk lands.
pub record Going (t : List ℕ) (states state byte from steps : ℕ) : Type 0 where
  pub falls : steps + from ≤ state
  pub lands : next_in t states state byte ≡ later steps (next_in t states from byte)

module _ (t : List ℕ) (states state byte : ℕ) where
  pub going_start : Going t states state byte state 0
  going_start = record { falls = omega arith; lands = same_landing refl (omega arith) }

  module _ (from steps : ℕ) (going : Going t states state byte from steps) (next : ℕ) (is : next ≡ child_by_in t states from byte) where
    pub going_forward : (next ≡ 0 → ⊥) → record { at = next; taken = steps } ≡ next_in t states state byte
    going_forward h =
        let e : next_in t states from byte ≡ record { at = child_by_in t states from byte; taken = 0 } = next_forward t states byte from (rw is at h) in
        sym (going.lands ∙ ap (later steps) e ∙ same_landing (sym is) (omega arith))

    pub going_root : next ≡ 0 → from ≡ 0 → record { at = from; taken = steps } ≡ next_in t states state byte
    going_root h z =
        let e : next_in t states from byte ≡ record { at = 0; taken = 0 } = next_root t states byte from z (sym is ∙ h) in
        sym (going.lands ∙ ap (later steps) e ∙ same_landing (sym z) (omega arith))

    pub going_back : next ≡ 0 → 0 < from → (back : ℕ) → back ≡ back_in t from → Going t states state byte back (steps + 1)
    going_back h p back e =
        let smaller : back_in t from < from = back_below t from p in
        let on : next_in t states from byte ≡ later 1 (next_in t states (back_in t from) byte) = next_back t states byte from p (sym is ∙ h) in
        rw e (record { falls = omega (arith, going.falls); lands = going.lands ∙ ap (later steps) on ∙ same_landing refl (omega arith) })
