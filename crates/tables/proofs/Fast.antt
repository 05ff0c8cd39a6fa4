-- What is read from the rows, the columns and the depths of a book's tables: a cell has the number of the next state, and depth and gain say
-- how many failure steps a byte costs. Assumes nothing.
use mathlib.Core.Path.{◌≡◌, refl, sym, ◌∙◌}
use mathlib.Core.Bool.{Bool, true, false, cond}
use mathlib.Core.List.{List, [], ◌∷◌, ◌++◌}
use Prim.Native.Nat.{ℕ, suc, ◌+◌, ◌*◌, ◌/◌, ◌%◌, ◌≤◌, ◌<◌}
use native.Mathlib.Nat.{mul-add-div, div-eq_of_lt, mul-add-mod_self_left, mod-eq_of_lt}
use native.Mathlib.Omega.{arith}
use lib.ListN.{length}
use Rattle.meaning.specs.Books.{Book}
use Rattle.meaning.specs.Automaton.{is_state, after, depth, parent, nonempty}
use Rattle.meaning.proofs.States.{is_state_closed}
use Rattle.meaning.proofs.Depth.{depth_cons, depth_nil, depth_parent, steps_depth}
use Rattle.format.specs.Limits.{Within, longest_keyword}
use Rattle.numbering.specs.States.{byte_values, state_count, state_at, number_in, step_by}
use Rattle.numbering.proofs.Keywords.{within_bytes}
use Rattle.numbering.proofs.States.{number_empty}
use Rattle.numbering.proofs.Steps.{step_by_string}
use Rattle.numbering.proofs.Limits.{state_at_short}
use Rattle.tables.specs.Regions.{entry_length, Laid}
use Rattle.tables.specs.Endings.{endings}
use Rattle.tables.specs.Classes.{occurs, occurring_below, occurring, class_of, class_count}
use Rattle.tables.specs.Layout.{always, depth_of, gain_of, ending_mark, info_of, dense_count, column_of, next_by_class, cell_of, tables_layout}
use Rattle.tables.specs.Reads.{info_in, dense_in, column_in, cell_in, depth_in, gain_in}
use Rattle.tables.proofs.Fits.{fits}
use Rattle.tables.proofs.Parts.{field_at, byte_at}
use Rattle.tables.proofs.Classes.{absent_empty, class_byte, class_occurs, class_absent, cells_room, cell_inside}
use Rattle.tables.proofs.Fields.{up_to_below, info_laid}

-- A place in rows of d: the quotient and the remainder.
pub row_of : (d c u : ℕ) → u < d → ((d * c + u) / d ≡ c) × ((d * c + u) % d ≡ u)
row_of d c u l = (
  (let q : (d * c + u) / d ≡ c + u / d = mul-add-div (omega arith) c u in omega (arith, q, div-eq_of_lt l)),
  mul-add-mod_self_left d c u ∙ mod-eq_of_lt l,
)

-- The depth counts some of the nonempty suffixes.
depth_length : (state : List ℕ → Bool) (u : List ℕ) → depth state u ≤ length u
depth_length state [] = omega (arith, depth_nil state)
depth_length state (x ∷ u) = go (state (x ∷ u)) (depth_length state u) (depth_cons state x u)
  where
    go : (v : Bool) → depth state u ≤ length u → depth state (x ∷ u) ≡ cond v 1 0 + depth state u → depth state (x ∷ u) ≤ suc (length u)
    go true ih e = omega (arith, e)
    go false ih e = omega (arith, e)

parent_length : (u : List ℕ) → length (parent u) ≤ length u
unfolding parent
parent_length [] = omega arith
parent_length (x ∷ []) = omega arith
parent_length (x ∷ y ∷ u) = omega (arith, parent_length (y ∷ u))

module _ (book : Book) (within : Within book) where
  -- ── The next state by a class is that by its byte ──

  pub next_class_lem : (u a : ℕ) → a < byte_values → next_by_class book u (class_of book a) ≡ (step_by book u a).at
  unfolding next_by_class occurring step_by
  next_class_lem u a l = go (occurs book a) refl
    where
      go : (v : Bool) → occurs book a ≡ v → next_by_class book u (class_of book a) ≡ number_in book (after (is_state book) (state_at book u ++ a ∷ []))
      go true e =
          let c : class_of book a ≡ suc (length (occurring_below book a)) = omega (arith, class_occurs book a e) in
          rw (c, (class_byte book byte_values a l e).1)
      go false e = rw (class_absent book a e, absent_empty book (state_at book u) a e) (sym (number_empty book (within_bytes book within)))

  -- The cell of a state with a row, in the column of a byte.
  pub cell_next : (u a : ℕ) → u < dense_count book → a < byte_values → cell_of book (dense_count book * class_of book a + u) ≡ (step_by book u a).at
  unfolding cell_of
  cell_next u a l h = let z = row_of (dense_count book) (class_of book a) u l in rw (z.0, z.1) (next_class_lem u a h)

  -- ── Depth and gain ──

  pub depth_few : (i : ℕ) → i < state_count book → depth_of book i ≤ longest_keyword
  unfolding depth_of
  depth_few i l = omega (arith, depth_length (is_state book) (state_at book i), state_at_short book within i l)

  -- From the parent to the state the depth grows by one, less the gain.
  pub gain_depth : (i : ℕ) → gain_of book i + depth_of book i ≡ depth (is_state book) (parent (state_at book i)) + 1
  unfolding gain_of depth_of
  gain_depth i = omega (arith, depth_parent (is_state book) (is_state_closed book) (state_at book i))

  pub gain_few : (i : ℕ) → i < state_count book → gain_of book i ≤ 33
  gain_few i l =
      let u : List ℕ = state_at book i in
      omega (arith, gain_depth i, depth_length (is_state book) (parent u), parent_length u, state_at_short book within i l)

  steps_paid : (u a : ℕ) → (step_by book u a).taken + depth (is_state book) (parent (after (is_state book) (state_at book u ++ a ∷ []))) ≡ depth_of book u
  unfolding step_by depth_of
  steps_paid u a = steps_depth (is_state book) (is_state_closed book) (state_at book u) a

  -- The failure steps of a byte: what one byte adds, and the depth before it, less the gain and the depth of the next state.
  pub gain_step : (u a : ℕ) → (step_by book u a).taken + gain_of book (step_by book u a).at + depth_of book (step_by book u a).at ≡ depth_of book u + 1
  gain_step u a =
      let v : ℕ = (step_by book u a).at in
      let next : state_at book v ≡ after (is_state book) (state_at book u ++ a ∷ []) = step_by_string book (within_bytes book within) u a in
      let paid : (step_by book u a).taken + depth (is_state book) (parent (state_at book v)) ≡ depth_of book u = rw next (steps_paid u a) in
      omega (arith, paid, gain_depth v)

  -- ── What is read ──

  module _ (t : List ℕ) (laid : Laid (tables_layout book) t) where
    pub dense_laid : dense_in t ≡ dense_count book
    unfolding tables_layout entry_length always
    dense_laid = field_at t (tables_layout book) laid 2 0 0 (omega arith) _ (omega arith)

    pub column_laid : (a : ℕ) → a < byte_values → column_in t a ≡ column_of book a
    unfolding tables_layout entry_length
    column_laid a l = field_at t (tables_layout book) laid 7 0 a (omega arith) _ (omega arith)

    -- A cell of a column is inside the table memory.
    pub column_inside : (a u : ℕ) → a < byte_values → u < dense_count book → column_in t a + 2 * u + 2 ≤ 49152
    unfolding column_of
    column_inside a u l h = omega (arith, column_laid a l, cell_inside book u a h l, cells_room book)

    -- It has the number of the next state.
    pub cell_laid : (u a : ℕ) → u < dense_count book → a < byte_values → cell_in t (column_in t a) u ≡ (step_by book u a).at
    unfolding tables_layout entry_length column_of
    cell_laid u a l h =
        let j : ℕ = dense_count book * class_of book a + u in
        field_at t (tables_layout book) laid 16 0 j (omega (arith, cell_inside book u a l h, cells_room book)) _ (omega (arith, column_laid a h))
        ∙ up_to_below (dense_count book * class_count book) (cell_of book) j (cell_inside book u a l h)
        ∙ cell_next u a l h

    pub depth_laid : (i : ℕ) → i < state_count book → depth_in t i ≡ depth_of book i
    unfolding tables_layout entry_length
    depth_laid i inside = byte_at t (tables_layout book) laid 10 0 i (omega (arith, (fits book within).states)) _ (omega arith) refl ∙ up_to_below (state_count book) (depth_of book) i inside

    pub gain_laid : (i : ℕ) → i < state_count book → gain_in t i ≡ gain_of book i
    unfolding info_of ending_mark
    gain_laid i inside = go (nonempty (endings book (state_at book i))) (info_laid book within t laid i inside)
      where
        go : (v : Bool) → info_in t i ≡ gain_of book i + cond v 128 0 → gain_in t i ≡ gain_of book i
        go true e = omega (arith, e, gain_few i inside)
        go false e = omega (arith, e, gain_few i inside)
