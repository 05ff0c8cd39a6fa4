-- On tables that hold a book's states the search finds the book's child, because the children of a state stand together; so the
-- walk is the book's step. Assumes nothing.
use mathlib.Core.Path.{◌≡◌, refl, sym, ◌∙◌}
use mathlib.Core.Logic.{◌⊎◌, inl, inr, ⊎_elim}
use mathlib.Core.Bool.{Bool, true, false, cond}
use mathlib.Core.List.{List}
use Prim.Native.Nat.{ℕ, zero, suc, ◌+◌, ◌-◌, ◌≤◌, ◌<◌}
use native.Mathlib.Omega.{arith}
use lib.Dec.{eqb}
use borrow.Author.Tests.{eqb-true, eqb-false}
use Rattle.meaning.specs.Books.{Book, keywords}
use Rattle.format.specs.Limits.{All, Bytes}
use Rattle.lent.proofs.Cases.{eq_or_ne}
use Rattle.numbering.specs.States.{state_count, state_at, first_child, ChildOf, last_byte, child_by, failure_in, step_by}
use Rattle.numbering.proofs.Children.{first_child_above, first_child_inside, child_inside, child_by_found, child_by_missing}
use Rattle.numbering.proofs.Steps.{failure_in_smaller, walk_steps}
use Rattle.tables.specs.Layout.{label_of}
use Rattle.tables.specs.Reads.{label_in, fail_in, first_child_in, back_in}
use Rattle.tables.proofs.Followed.{back_fail}
use Rattle.stepping.specs.Steps.{children_end_in, labelled_in, child_by_in, next_in}
use Rattle.stepping.specs.Held.{HoldsStates, HoldsFailures}

-- ── What the search finds ──

module _ (t : List ℕ) (byte : ℕ) where
  -- The number i is one of those searched, and its label is the byte.
  pub record Has (many from i : ℕ) : Type 0 where
    pub low : from ≤ i
    pub high : i < from + many
    pub label : label_in t i ≡ byte

  pub found : (many from : ℕ) → (labelled_in t byte many from ≡ 0 → ⊥) → Has many from (labelled_in t byte many from)
  unfolding labelled_in
  found zero from some = absurd (some refl)
  found (suc many) from some = go (eqb (label_in t from) byte) refl (found many (from + 1)) some
    where
      rest : ℕ
      rest = labelled_in t byte many (from + 1)

      go : (v : Bool) → eqb (label_in t from) byte ≡ v → ((rest ≡ 0 → ⊥) → Has many (from + 1) rest) → (cond v from rest ≡ 0 → ⊥) → Has (suc many) from (cond v from rest)
      go true e later some = record { low = omega arith; high = omega arith; label = eqb-true (label_in t from) byte e }
      go false e later some =
          let h : Has many (from + 1) rest = later some in
          record { low = omega (arith, h.low); high = omega (arith, h.high); label = h.label }

  pub missing : (many from : ℕ) → 0 < from → labelled_in t byte many from ≡ 0 → (i : ℕ) → Has many from i → ⊥
  unfolding labelled_in
  missing zero from p none i h = omega (arith, h.low, h.high)
  missing (suc many) from p none i h = go (eqb (label_in t from) byte) refl none (missing many (from + 1) (omega arith)) (eq_or_ne i from)
    where
      rest : ℕ
      rest = labelled_in t byte many (from + 1)

      go : (v : Bool) → eqb (label_in t from) byte ≡ v → cond v from rest ≡ 0 → (rest ≡ 0 → (i : ℕ) → Has many (from + 1) i → ⊥) → (i ≡ from) ⊎ (i ≡ from → ⊥) → ⊥
      go true e none later here = omega arith
      go false e none later (inl here) = eqb-false (label_in t from) byte e (rw here at h.label)
      go false e none later (inr other) = later none i (record { low = omega (arith, h.low); high = omega (arith, h.high); label = h.label })

-- Whatever the bytes are, a child is one of the states.
pub child_below : (t : List ℕ) (states i byte : ℕ) → 0 < states → child_by_in t states i byte < states
unfolding child_by_in
child_below t states i byte p =
    let many : ℕ = children_end_in t states i - first_child_in t i in
    ⊎_elim
    (λ (e : labelled_in t byte many (first_child_in t i) ≡ 0). rw e p)
    (λ (some : labelled_in t byte many (first_child_in t i) ≡ 0 → ⊥).
    let h = found t byte many (first_child_in t i) some in
    omega (arith, h.low, h.high))
    (eq_or_ne (labelled_in t byte many (first_child_in t i)) 0)

-- ── On the tables of a book ──

module _ (book : Book) (bytes : All Bytes (keywords book.phrases)) (t : List ℕ) (held : HoldsStates book t) where
  -- The numbers of the children of i end at the first child of the next state.
  pub children_end_right : (i : ℕ) → i < state_count book → children_end_in t (state_count book) i ≡ first_child book (i + 1)
  children_end_right i l = omega (arith, held.children (i + 1) (omega arith), first_child_inside book bytes (i + 1))

  -- What is searched are the children of i.
  search : (i byte : ℕ) → i < state_count book
      → child_by_in t (state_count book) i byte ≡ labelled_in t byte (first_child book (i + 1) - first_child book i) (first_child book i)
  unfolding child_by_in
  search i byte l = rw (held.children i (omega arith), children_end_right i l)

  module _ (i byte : ℕ) (l : i < state_count book) where
    abbrev Searched : ℕ → Type 0
    Searched = Has t byte (first_child book (i + 1) - first_child book i) (first_child book i)

    searched_child : (c : ℕ) → Searched c → ChildOf book i c × (last_byte (state_at book c) ≡ byte)
    unfolding label_of
    searched_child c h =
        let child : ChildOf book i c = record { inside = l; low = h.low; high = omega (arith, h.high, h.low) } in
        (child, sym (held.labels c (child_inside book bytes i c child)) ∙ h.label)

    child_searched : (c : ℕ) → ChildOf book i c → last_byte (state_at book c) ≡ byte → Searched c
    unfolding label_of
    child_searched c child e =
        record { low = child.low; high = omega (arith, child.low, child.high); label = held.labels c (child_inside book bytes i c child) ∙ e }

    -- The child by a byte is the book's.
    pub child_right : child_by_in t (state_count book) i byte ≡ child_by book i byte
    child_right = search i byte l ∙ go (labelled_in t byte (first_child book (i + 1) - first_child book i) (first_child book i)) refl
      where
        go : (r : ℕ) → labelled_in t byte (first_child book (i + 1) - first_child book i) (first_child book i) ≡ r → r ≡ child_by book i byte
        go zero e =
            sym (child_by_missing book bytes i byte l (λ c child last.
            missing t byte (first_child book (i + 1) - first_child book i) (first_child book i) (omega (arith, first_child_above book bytes i l)) e c (child_searched c child last)))
        go (suc r) e =
            let h : Searched (suc r) = rw e at (found t byte (first_child book (i + 1) - first_child book i) (first_child book i) (λ z. omega (arith, e))) in
            let c = searched_child (suc r) h in
            sym (rw c.1 at (child_by_found book bytes i (suc r) c.0))

  module _ (below : ℕ) (inside : below ≤ state_count book) (failures : HoldsFailures book t below) where
    pub back_right : (i : ℕ) → 0 < i → i < below → back_in t i ≡ failure_in book i
    unfolding HoldsFailures
    back_right i p l =
        let e : fail_in t i ≡ failure_in book i = failures i l in
        back_fail t i (rw e (failure_in_smaller book bytes i p (omega arith))) ∙ e

    -- From a state below which, and of which, the failures are held, the step of a byte is the book's: to the number of the next
    -- state, with the failure steps that document 01 counts.
    pub next_right : (i byte : ℕ) → i < below → next_in t (state_count book) i byte ≡ step_by book i byte
    unfolding next_in
    next_right i byte l = walk_steps book bytes (child_by_in t (state_count book)) (back_in t) below inside child_right back_right (suc i) i byte (omega arith) l
