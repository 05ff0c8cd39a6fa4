-- Turn by turn: each turn takes one byte more of each quarter, and writes over nothing that is listed already.
-- Assumes nothing.
use mathlib.Core.Path.{◌≡◌, refl, sym, ap, ap₂, subst, ◌∙◌}
use mathlib.Core.Logic.{⊎_elim}
use mathlib.Core.List.{List}
use Prim.Native.Nat.{ℕ, ◌+◌, ◌*◌, ◌≤◌, ◌<◌}
use native.Mathlib.Omega.{arith}
use lib.ListN.{length, get_or, set, length-set}
use lib.Seq.{get_or-set_same, get_or-set_other}
use Rattle.lent.proofs.Cases.{eq_or_ne}
use Rattle.tables.specs.Layout.{room_for_states}
use Rattle.tables.specs.Reads.{Whole, state_count_in, dense_in, column_in}
use Rattle.seeking.specs.Quick.{quick_in}
use Rattle.seeking.specs.Foreseen.{after_from}
use Rattle.seeking.proofs.Foreseen.{after_more}
use Rattle.ahead.specs.Cursors.{cursor, Below, ColumnOf, TurnReady, Turned, with_four}
use Rattle.ahead.specs.Ahead.{Listed, KeptFrom, RunReady, Ran, AgainReady, Mended}
use Rattle.ahead.proofs.Turns.{column_of_lem, length_first, first_there, first_others}

-- Nothing was written.
pub kept_none : (from : ℕ) (ahead : List ℕ) → KeptFrom from ahead ahead
kept_none from ahead = record { each = λ i l. refl }

-- What neither of two calls wrote is as it was, where the first wrote no farther than the second.
pub kept_over : (from early : ℕ) (before between after : List ℕ) → early ≤ from → KeptFrom early before between → KeptFrom from between after → KeptFrom from before after
kept_over from early before between after less first then = record { each = λ i l. then.each i l ∙ first.each i (omega arith) }

module _ (t part : List ℕ) (states dense : ℕ) (counted : states ≡ state_count_in t) (rows : dense ≡ dense_in t) where
  -- What holds before so many turns holds before each of them,
  pub turn_ready : (first quarter count i : ℕ) (ahead : List ℕ) (from : List ℕ) → RunReady t part first quarter count ahead → Below (state_count_in t) from → i < count
      → TurnReady t part states dense (first + i) quarter from
  turn_ready first quarter count i ahead from ready inside more = record {
    counted = counted;
    rows = rows;
    few_states = omega (arith, ready.few_states);
    some_dense = omega (arith, ready.some_dense);
    few_dense = omega (arith, ready.few_dense);
    columns = ready.columns;
    inside = subst (λ (n : ℕ). Below n from) (sym counted) inside;
    within = omega (arith, ready.within);
  }

  -- and what holds before a quarter is looked up alone before each of its bytes.
  pub next_ready : (from quarter k state index byte column : ℕ) (ahead : List ℕ) → AgainReady t part from quarter k state ahead → index < states → byte < 256 → column ≡ column_in t byte → Whole t
      → (states ≤ room_for_states) × (1 ≤ dense) × (dense ≤ states) × (index < states) × (ColumnOf t dense byte column)
  next_ready from quarter k state index byte column ahead ready inside small is whole = (
    omega (arith, ready.few_states),
    omega (arith, ready.some_dense),
    omega (arith, ready.few_dense),
    inside,
    column_of_lem t dense byte column whole ready.columns rows (omega (arith, ready.few_dense, ready.few_states)) small is,
  )

module _ (t part : List ℕ) where
  -- One byte more of a quarter.
  stepped : (from state count index next place : ℕ) → index ≡ after_from t part from state count → place ≡ from + count
      → next ≡ quick_in t (state_count_in t) (dense_in t) index (get_or part place 0) → next ≡ after_from t part from state (count + 1)
  stepped from state count index next place e p h =
      h ∙ ap₂ (λ (s q : ℕ). quick_in t (state_count_in t) (dense_in t) s (get_or part q 0)) e p ∙ sym (after_more t part from state count)

  -- One number more of a quarter.
  listed_more : (from state count k next : ℕ) (ahead after : List ℕ) → Listed t part from state count k ahead
      → ((j : ℕ) → j < count → get_or after (4 * j + k) 0 ≡ get_or ahead (4 * j + k) 0)
      → get_or after (4 * count + k) 0 ≡ next → next ≡ after_from t part from state (count + 1) → Listed t part from state (count + 1) k after
  listed_more from state count k next ahead after listed kept there is = record {
    each = λ j l. ⊎_elim
        (λ (e : j ≡ count). ap (λ (i : ℕ). get_or after (4 * i + k) 0) e ∙ there ∙ is ∙ ap (λ (i : ℕ). after_from t part from state (i + 1)) (sym e))
        (λ (d : j ≡ count → ⊥). kept j (omega arith) ∙ listed.each j (omega arith))
        (eq_or_ne j count);
  }

  -- ── All four ──

  module _ (first quarter : ℕ) (start : List ℕ) (before : List ℕ) where
    pub ran_none : Below (state_count_in t) start → Ran t part first quarter 0 start start before before
    unfolding after_from
    ran_none inside = record { ended = λ k l. refl; listed = λ k l. record { each = λ j m. absurd (omega arith) }; inside = inside; behind = kept_none 0 before; long = refl }

    pub ran_more : (count states dense : ℕ) (cursors next : List ℕ) (ahead after : List ℕ) → states ≡ state_count_in t → dense ≡ dense_in t
        → Ran t part first quarter count start cursors before ahead → Turned t part states dense (first + count) quarter cursors next
        → 4 * count + 4 ≤ length ahead → after ≡ with_four ahead (4 * count) next → Ran t part first quarter (count + 1) start next before after
    ran_more count states dense cursors next ahead after counted rows ran turned room e = record {
      ended = on;
      listed = λ k l. listed_more (first + k * quarter) (cursor start k) count k (cursor next k) ahead after (ran.listed k l)
          (λ j m. ap (λ (a : List ℕ). get_or a (4 * j + k) 0) e ∙ first_others ahead (4 * count) next 4 (4 * j + k) (λ q few z. omega arith))
          (ap (λ (a : List ℕ). get_or a (4 * count + k) 0) e ∙ first_there ahead (4 * count) next 4 room k l)
          (on k l);
      inside = rw counted at turned.inside;
      behind = record { each = λ i l. ap (λ (a : List ℕ). get_or a i 0) e ∙ first_others ahead (4 * count) next 4 i (λ q few z. omega arith) ∙ ran.behind.each i (omega arith) };
      long = ap length e ∙ length_first ahead (4 * count) next 4 ∙ ran.long;
    }
      where
        on : (k : ℕ) → k < 4 → cursor next k ≡ after_from t part (first + k * quarter) (cursor start k) (count + 1)
        on k l =
            let place : first + count + k * quarter ≡ first + k * quarter + count = omega arith in
            stepped (first + k * quarter) (cursor start k) count (cursor cursors k) (cursor next k) (first + count + k * quarter) (ran.ended k l) place
            (turned.each k l
            ∙ ap₂ (λ (n d : ℕ). quick_in t n d (cursor cursors k) (get_or part (first + count + k * quarter) 0)) counted rows)

  -- ── One alone ──

  module _ (from k state : ℕ) (before : List ℕ) where
    pub mended_none : Mended t part from 0 k state state before before
    unfolding after_from
    mended_none = record { ended = refl; listed = record { each = λ j m. absurd (omega arith) }; others = λ l j m d. refl; behind = kept_none 0 before; long = refl }

    pub mended_more : (count states dense index next : ℕ) (ahead after : List ℕ) → states ≡ state_count_in t → dense ≡ dense_in t → k < 4
        → Mended t part from count k state index before ahead → next ≡ quick_in t states dense index (get_or part (from + count) 0)
        → 4 * count + k < length ahead → after ≡ set ahead (4 * count + k) next → Mended t part from (count + 1) k state next before after
    mended_more count states dense index next ahead after counted rows few mended found room e = record {
      ended = on;
      listed = listed_more from state count k next ahead after mended.listed
          (λ j m. kept (4 * j + k) (λ z. omega arith))
          (ap (λ (a : List ℕ). get_or a (4 * count + k) 0) e ∙ get_or-set_same ahead (4 * count + k) next 0 room)
          on;
      others = λ l j m d. kept (4 * j + l) (λ z. d (omega arith)) ∙ mended.others l j m d;
      behind = record { each = λ i l. kept i (λ z. omega arith) ∙ mended.behind.each i (omega arith) };
      long = ap length e ∙ length-set ahead (4 * count + k) next ∙ mended.long;
    }
      where
        on : next ≡ after_from t part from state (count + 1)
        on = stepped from state count index next (from + count) mended.ended refl
            (found ∙ ap₂ (λ (n d : ℕ). quick_in t n d index (get_or part (from + count) 0)) counted rows)

        kept : (p : ℕ) → (p ≡ 4 * count + k → ⊥) → get_or after p 0 ≡ get_or ahead p 0
        kept p d = ap (λ (a : List ℕ). get_or a p 0) e ∙ get_or-set_other ahead (4 * count + k) p next 0 d

    -- Where the cursor before it ended where its own began nothing is to be done.
    pub mended_same : (quarter began ended : ℕ) → state ≡ began → Listed t part from began quarter k before → ended ≡ after_from t part from began quarter
        → Mended t part from quarter k state ended before before
    mended_same quarter began ended e listed is = record {
      ended = is ∙ ap (λ (s : ℕ). after_from t part from s quarter) (sym e);
      listed = record { each = λ j l. listed.each j l ∙ ap (λ (s : ℕ). after_from t part from s (j + 1)) (sym e) };
      others = λ l j m d. refl;
      behind = kept_none (4 * quarter) before;
      long = refl;
    }
