-- A byte occurs exactly when it is the last byte of a state, since states are prefixes of keywords; a class is the place of its byte in the
-- list of those that occur. Assumes nothing.
use mathlib.Core.Path.{◌≡◌, refl, sym, ap, ◌∙◌}
use mathlib.Core.Logic.{inl, inr, ⊎_elim}
use mathlib.Core.Bool.{Bool, true, false, So, cond, false≢true}
use mathlib.Core.List.{List, [], ◌∷◌, ◌++◌, Memᴰ}
use Prim.Native.Nat.{ℕ, zero, suc, min, ◌+◌, ◌*◌, ◌/◌, ◌≤◌, ◌<◌}
use native.Mathlib.Nat.{le-suc_iff, div-mul-le_self, le-div_iff_mul-le, mul-le-mul_right, mul-le-mul_left, mul-suc}
use native.Mathlib.Omega.{arith}
use lib.Dec.{eqb}
use lib.ListN.{length, get_or, length-append, get_or-append}
use lib.Seq.{append_snoc, get_or-append_seam}
use borrow.Author.Tests.{eqb-true, eq-eqb}
use Rattle.lent.proofs.Cases.{lt_or_le}
use Rattle.meaning.specs.Books.{Book, keywords}
use Rattle.meaning.specs.Reports.{choose}
use Rattle.meaning.specs.Automaton.{IsState, is_state, some_of, after}
use Rattle.meaning.proofs.Truth.{untrue}
use Rattle.meaning.proofs.States.{some_of_iff, is_state_iff}
use Rattle.meaning.proofs.After.{after_tail}
use Rattle.format.specs.Limits.{Between}
use Rattle.numbering.specs.Listed.{below}
use Rattle.numbering.specs.States.{byte_values, state_count}
use Rattle.numbering.proofs.Lists.{choose_append}
use Rattle.numbering.proofs.States.{count_some}
use Rattle.tables.specs.Classes.{occurs, occurring_below, occurring, class_of, class_count}
use Rattle.tables.specs.Layout.{room_for_cells, dense_count}

-- What is in a list stands between some elements and the rest.
split_at : (x : ℕ) (l : List ℕ) → Memᴰ x l → (before : List ℕ) × (rest : List ℕ) × (before ++ x ∷ rest ≡ l)
split_at x [] m = absurd (mathlib.Core.List.Memᴰ.not-nil m)
split_at x (y ∷ l) m = ⊎_elim
    (λ (e : x ≡ y). ([], l, ap {B = List ℕ} (λ z. z ∷ l) e))
    (λ k. let r = split_at x l k in (y ∷ r.0, r.1, ap {B = List ℕ} (λ z. y ∷ z) r.2))
    (mathlib.Core.List.Memᴰ.cases_cons m)

not_empty : (u : List ℕ) (a : ℕ) → u ++ a ∷ [] ≡ [] → ⊥
not_empty u a e = omega (arith, ap length e, length-append u (a ∷ []))

module _ (book : Book) where
  -- ── Which bytes occur ──

  -- The last byte of a state occurs.
  pub state_occurs : (u : List ℕ) (a : ℕ) → So (is_state book (u ++ a ∷ [])) → So (occurs book a)
  unfolding occurs IsState
  state_occurs u a h = go ((is_state_iff book (u ++ a ∷ [])).0 h)
    where
      go : IsState book (u ++ a ∷ []) → So (occurs book a)
      go (inl e) = absurd (not_empty u a e)
      go (inr p) =
          let m : Memᴰ a p.keyword = rw (← p.starts.split) (mathlib.Core.List.Memᴰ.append_left p.starts.rest (mathlib.Core.List.Memᴰ.append_right u (mathlib.Core.List.Memᴰ.head refl))) in
          (some_of_iff (some_of (eqb a)) (keywords book.phrases)).1 (p.keyword, p.listed, (some_of_iff (eqb a) p.keyword).1 (a, m, eq-eqb a a refl))

  -- A byte that occurs is the last byte of a state.
  pub occurs_state : (a : ℕ) → So (occurs book a) → (u : List ℕ) × So (is_state book (u ++ a ∷ []))
  unfolding occurs IsState
  occurs_state a h =
      let k = (some_of_iff (some_of (eqb a)) (keywords book.phrases)).0 h in
      let b = (some_of_iff (eqb a) k.0).0 k.2 in
      let s = split_at a k.0 (rw (← eqb-true a b.0 b.2) at b.1) in (
        s.0,
        (is_state_iff book (s.0 ++ a ∷ [])).1 (inr (record {
          keyword = k.0;
          listed = k.1;
          starts = record { rest = s.1; split = append_snoc s.0 a s.1 ∙ s.2 };
        })),
      )

  -- A byte that does not occur leads to the empty state, from wherever.
  pub absent_empty : (u : List ℕ) (a : ℕ) → occurs book a ≡ false → after (is_state book) (u ++ a ∷ []) ≡ []
  unfolding after
  absent_empty [] a none = rw (no_state [] a none)
    where
      no_state : (u : List ℕ) (a : ℕ) → occurs book a ≡ false → is_state book (u ++ a ∷ []) ≡ false
      no_state u a none = untrue (is_state book (u ++ a ∷ [])) (λ h. false≢true (sym none ∙ state_occurs u a h))
  absent_empty (x ∷ u) a none =
      after_tail (is_state book) x (u ++ a ∷ []) (untrue (is_state book (x ∷ u ++ a ∷ [])) (λ h. false≢true (sym none ∙ state_occurs (x ∷ u) a h)))
      ∙ absent_empty u a none

  -- ── Their list ──

  below_more : (n : ℕ) → occurring_below book (suc n) ≡ occurring_below book n ++ choose (occurs book) (n ∷ [])
  unfolding occurring_below below
  below_more n = choose_append (occurs book) (below n) (n ∷ [])

  -- With a byte that occurs the list grows by it, with any other not at all.
  pub below_occurs : (n : ℕ) → occurs book n ≡ true → occurring_below book (suc n) ≡ occurring_below book n ++ n ∷ []
  unfolding choose
  below_occurs n e = below_more n ∙ rw e refl

  pub below_absent : (n : ℕ) → occurs book n ≡ false → length (occurring_below book (suc n)) ≡ length (occurring_below book n)
  unfolding choose
  below_absent n e = rw (below_more n, e) (omega (arith, length-append (occurring_below book n) []))

  pub below_grows : (n : ℕ) → length (occurring_below book (suc n)) ≡ length (occurring_below book n) + cond (occurs book n) 1 0
  below_grows n = go (occurs book n) refl
    where
      go : (v : Bool) → occurs book n ≡ v → length (occurring_below book (suc n)) ≡ length (occurring_below book n) + cond v 1 0
      go true e = ap length (below_occurs n e) ∙ length-append (occurring_below book n) (n ∷ [])
      go false e = omega (arith, below_absent n e)

  pub below_few : (n : ℕ) → length (occurring_below book n) ≤ n
  unfolding occurring_below below choose
  below_few zero = omega arith
  below_few (suc n) = go (occurs book n) refl (below_few n)
    where
      go : (v : Bool) → occurs book n ≡ v → length (occurring_below book n) ≤ n → length (occurring_below book (suc n)) ≤ suc n
      go true e ih = omega (arith, ap length (below_occurs n e), length-append (occurring_below book n) (n ∷ []))
      go false e ih = omega (arith, below_absent n e)

  -- A byte that occurs stands in the list behind those below it.
  pub class_byte : (n a : ℕ) → a < n → So (occurs book a)
      → (length (occurring_below book a) < length (occurring_below book n)) × (get_or (occurring_below book n) (length (occurring_below book a)) 0 ≡ a)
  class_byte zero a l h = absurd (omega arith)
  class_byte (suc n) a l h = ⊎_elim
      (λ (k : suc a ≤ n). earlier (class_byte n a k h))
      (λ (k : suc a ≡ suc n). let z : a ≡ n = omega arith in rw (← z) last)
      (le-suc_iff.0 l)
    where
      last : (length (occurring_below book a) < length (occurring_below book (suc a))) × (get_or (occurring_below book (suc a)) (length (occurring_below book a)) 0 ≡ a)
      last = rw (below_occurs a h) (omega (arith, length-append (occurring_below book a) (a ∷ [])), get_or-append_seam (occurring_below book a) a [] 0)

      earlier : (length (occurring_below book a) < length (occurring_below book n)) × (get_or (occurring_below book n) (length (occurring_below book a)) 0 ≡ a)
          → (length (occurring_below book a) < length (occurring_below book (suc n))) × (get_or (occurring_below book (suc n)) (length (occurring_below book a)) 0 ≡ a)
      earlier r = rw (below_more n) (
        omega (arith, r.0, length-append (occurring_below book n) (choose (occurs book) (n ∷ []))),
        get_or-append (occurring_below book n) (choose (occurs book) (n ∷ [])) 0 (length (occurring_below book a)) r.0 ∙ r.1,
      )

  -- What stands in the list occurs, and stands behind those below it.
  pub byte_class : (n c : ℕ) → c < length (occurring_below book n) → (a : ℕ) × (a < n) × So (occurs book a) × (get_or (occurring_below book n) c 0 ≡ a) × (length (occurring_below book a) ≡ c)
  byte_class zero c l = absurd (omega (arith, below_few 0))
  byte_class (suc n) c l = ⊎_elim
      (λ (k : c < length (occurring_below book n)).
      let r = byte_class n c k in
      (r.0, omega (arith, r.1), r.2, rw (below_more n) (get_or-append (occurring_below book n) (choose (occurs book) (n ∷ [])) 0 c k ∙ r.3), r.4))
      (λ (k : length (occurring_below book n) ≤ c). last (occurs book n) refl k)
      (lt_or_le c (length (occurring_below book n)))
    where
      last : (v : Bool) → occurs book n ≡ v → length (occurring_below book n) ≤ c
          → (a : ℕ) × (a < suc n) × So (occurs book a) × (get_or (occurring_below book (suc n)) c 0 ≡ a) × (length (occurring_below book a) ≡ c)
      last true e k =
          let here : length (occurring_below book n) ≡ c = omega (arith, rw e at (below_grows n)) in
          (n, omega arith, e, ap (λ i. get_or (occurring_below book (suc n)) i 0) (sym here) ∙ (class_byte (suc n) n (omega arith) e).1, here)
      last false e k = absurd (omega (arith, rw e at (below_grows n)))

  -- ── Classes ──

  pub class_occurs : (a : ℕ) → occurs book a ≡ true → class_of book a ≡ length (occurring_below book a) + 1
  unfolding class_of
  class_occurs a e = rw e

  pub class_absent : (a : ℕ) → occurs book a ≡ false → class_of book a ≡ 0
  unfolding class_of
  class_absent a e = rw e

  -- No other byte has the class of a byte that occurs.
  pub class_once : (a b : ℕ) → a < byte_values → b < byte_values → So (occurs book a) → class_of book b ≡ class_of book a → b ≡ a
  class_once a b l k h e = go (occurs book b) refl
    where
      go : (v : Bool) → occurs book b ≡ v → b ≡ a
      go true x =
          let place : length (occurring_below book b) ≡ length (occurring_below book a) = omega (arith, e, class_occurs a h, class_occurs b x) in
          sym (class_byte byte_values b k x).1 ∙ ap (λ i. get_or (occurring_below book byte_values) i 0) place ∙ (class_byte byte_values a l h).1
      go false x = absurd (omega (arith, e, class_occurs a h, class_absent b x))

  pub class_below : (a : ℕ) → a < byte_values → class_of book a < class_count book
  unfolding class_count occurring
  class_below a l = go (occurs book a) refl
    where
      go : (v : Bool) → occurs book a ≡ v → class_of book a < length (occurring_below book byte_values) + 1
      go true e = omega (arith, class_occurs a e, (class_byte byte_values a l e).0)
      go false e = omega (arith, class_absent a e)

  pub class_count_lem : Between 1 257 (class_count book)
  unfolding class_count occurring
  class_count_lem = (omega arith, omega (arith, below_few byte_values))

  -- ── Columns ──

  -- There are cells for each state with a row in each column.
  pub cells_room : dense_count book * class_count book ≤ room_for_cells
  unfolding dense_count
  cells_room = fits (state_count book) room_for_cells (class_count book)
    where
      fits : (n room k : ℕ) → min n (room / k) * k ≤ room
      fits n room k =
          let less : min n (room / k) ≤ room / k = omega arith in
          omega (arith, mul-le-mul_right k less, div-mul-le_self room k)

  pub dense_range : Between 1 (state_count book) (dense_count book)
  unfolding dense_count
  dense_range = within (state_count book) room_for_cells (class_count book) class_count_lem.0 (omega (arith, class_count_lem.1)) (count_some book)
    where
      within : (n room k : ℕ) → 1 ≤ k → k ≤ room → 0 < n → Between 1 n (min n (room / k))
      within n room k some few h =
          let one : 1 ≤ room / k = (le-div_iff_mul-le some).1 (omega arith) in
          (omega arith, omega arith)

  -- Each cell of a column is inside the region of the rows.
  pub cell_inside : (u a : ℕ) → u < dense_count book → a < byte_values → dense_count book * class_of book a + u < dense_count book * class_count book
  cell_inside u a l h =
      let d : ℕ = dense_count book in
      let more : d * suc (class_of book a) ≤ d * class_count book = mul-le-mul_left d (class_below a h) in
      omega (arith, more, mul-suc d (class_of book a))
