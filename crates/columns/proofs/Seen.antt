-- A byte is the label of a state other than the root exactly when it occurs in a keyword. Assumes nothing.
use mathlib.Core.Path.{◌≡◌, refl, sym, ap, ◌∙◌}
use mathlib.Core.Bool.{true, false, So, false≢true}
use mathlib.Core.List.{List, [], ◌∷◌, ◌++◌}
use Prim.Native.Nat.{ℕ, zero, suc, ◌-◌, ◌<◌}
use native.Mathlib.Omega.{arith}
use lib.ListN.{length}
use Rattle.meaning.specs.Books.{Book, keywords}
use Rattle.meaning.specs.Automaton.{is_state}
use Rattle.format.specs.Limits.{All, Bytes}
use Rattle.numbering.specs.States.{state_count, state_at, number_in, last_byte}
use Rattle.numbering.proofs.Order.{length_snoc, last_byte_snoc}
use Rattle.numbering.proofs.States.{state_at_empty, state_at_state, number_below, state_at_number}
use Rattle.numbering.proofs.Children.{child_parent, child_snoc}
use Rattle.tables.specs.Classes.{occurs}
use Rattle.tables.specs.Layout.{label_of}
use Rattle.tables.specs.Reads.{label_in}
use Rattle.tables.proofs.Classes.{state_occurs, occurs_state}
use Rattle.stepping.proofs.Right.{Has, found, missing}
use Rattle.columns.specs.Columns.{labelled_by}

module _ (book : Book) (bytes : All Bytes (keywords book.phrases)) (t : List ℕ) (labels : (i : ℕ) → i < state_count book → label_in t i ≡ label_of book i) where
  -- The label of a state other than the root occurs.
  label_occurs : (i a : ℕ) → 0 < i → i < state_count book → label_of book i ≡ a → So (occurs book a)
  unfolding label_of
  label_occurs i a p l e =
      let r = child_parent book bytes i p l in
      let s : state_at book i ≡ state_at book r.0 ++ a ∷ [] = child_snoc book bytes r.0 i r.1 ∙ rw e refl in
      state_occurs book (state_at book r.0) a (rw s at (state_at_state book bytes i l))

  -- A byte that occurs is the label of a state other than the root.
  occurs_label : (a : ℕ) → So (occurs book a) → (i : ℕ) × (0 < i) × (i < state_count book) × (label_of book i ≡ a)
  unfolding label_of
  occurs_label a h = go (number_in book state) refl
    where
      some : (u : List ℕ) × So (is_state book (u ++ a ∷ []))
      some = occurs_state book a h

      state : List ℕ
      state = some.0 ++ a ∷ []

      string : state_at book (number_in book state) ≡ state
      string = state_at_number book bytes state some.1

      go : (i : ℕ) → number_in book state ≡ i → (j : ℕ) × (0 < j) × (j < state_count book) × (last_byte (state_at book j) ≡ a)
      go zero e =
          let empty : state ≡ [] = sym string ∙ ap (state_at book) e ∙ state_at_empty book in
          absurd (omega (arith, ap length empty, length_snoc some.0 a))
      go (suc i) e = (suc i, omega arith, omega (arith, e, number_below book bytes state some.1), ap last_byte (ap (state_at book) (sym e) ∙ string) ∙ last_byte_snoc some.0 a)

  -- The search through the labels finds none exactly where the byte does not occur.
  pub seen_none : (a : ℕ) → occurs book a ≡ false → labelled_by t (state_count book) a ≡ 0
  seen_none a none = go (labelled_by t (state_count book) a) refl
    where
      go : (r : ℕ) → labelled_by t (state_count book) a ≡ r → r ≡ 0
      go zero e = refl
      go (suc r) e =
          let h : Has t a (state_count book - 1) 1 (suc r) = rw e at (found t a (state_count book - 1) 1 (λ z. omega (arith, e))) in
          let inside : suc r < state_count book = omega (arith, h.high) in
          absurd (false≢true (sym none ∙ label_occurs (suc r) a (omega arith) inside (sym (labels (suc r) inside) ∙ h.label)))

  pub seen_some : (a : ℕ) → occurs book a ≡ true → labelled_by t (state_count book) a ≡ 0 → ⊥
  seen_some a some none =
      let r = occurs_label a some in
      missing t a (state_count book - 1) 1 (omega arith) none r.0
      (record { low = omega (arith, r.1); high = omega (arith, r.1, r.2); label = labels r.0 r.2 ∙ r.3 })
