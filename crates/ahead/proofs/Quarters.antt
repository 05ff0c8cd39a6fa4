-- Where each quarter begins in the state in which the one before it ended, the numbers of all four are right.
-- Assumes nothing.
use mathlib.Core.Path.{◌≡◌, refl, sym, ap, ap₂, ◌∙◌}
use mathlib.Core.Logic.{⊎_elim}
use mathlib.Core.List.{List}
use Prim.Native.Nat.{ℕ, ◌+◌, ◌*◌, ◌≤◌, ◌<◌}
use native.Mathlib.Nat.{add-mul, mul-le-mul_right}
use native.Mathlib.Omega.{arith}
use lib.ListN.{length, get_or}
use Rattle.lent.proofs.Cases.{eq_or_ne}
use Rattle.tables.specs.Reads.{state_count_in}
use Rattle.seeking.specs.Foreseen.{after_from, Looked}
use Rattle.seeking.proofs.Foreseen.{after_add, after_inside}
use Rattle.ahead.specs.Ahead.{Listed, KeptFrom, RunReady, Ran, AgainReady, Mended, LookReady}
use Rattle.ahead.specs.Cursors.{cursor}
use Rattle.ahead.proofs.Runs.{kept_none, kept_over}

-- What holds before four quarters are looked up holds before their turns, and before one of them is looked up again: the numbers are as many.
module _ (t part : List ℕ) (first quarter state : ℕ) (ahead : List ℕ) (ready : LookReady t part first quarter state ahead) (now : List ℕ) (long : length now ≡ length ahead) where
  pub run_ready : RunReady t part first quarter quarter now
  run_ready = record {
    few_states = ready.few_states;
    some_dense = ready.some_dense;
    few_dense = ready.few_dense;
    columns = ready.columns;
    within = omega (arith, ready.within);
    room = omega (arith, ready.room, long);
  }

  again_ready : (from k at : ℕ) → k < 4 → at < state_count_in t → from + quarter ≤ first + 4 * quarter → AgainReady t part from quarter k at now
  again_ready from k at few inside before = record {
    few_states = ready.few_states;
    some_dense = ready.some_dense;
    few_dense = ready.few_dense;
    columns = ready.columns;
    quarters = few;
    inside = inside;
    within = omega (arith, ready.within, before);
    room = omega (arith, ready.room, long);
  }

module _ (t part : List ℕ) where
  -- A quarter whose numbers are as they were is still listed.
  listed_kept : (from state count k l : ℕ) (ahead after : List ℕ) (quarter other end : ℕ) → k < 4 → (k ≡ l → ⊥) → Listed t part from state count k ahead
      → Mended t part quarter count l other end ahead after → Listed t part from state count k after
  listed_kept from state count k l ahead after quarter other end few apart listed mended = record { each = λ j m. mended.others k j few apart ∙ listed.each j m }

  -- What holds before quarter k is looked up again: it is listed from where its cursor began, and the cursor ended where that leads to.
  abbrev Ready : ℕ → ℕ → ℕ → ℕ → ℕ → ℕ → List ℕ → Type 0
  Ready quarter from k at began ended now = AgainReady t part from quarter k at now × Listed t part from began quarter k now × (ended ≡ after_from t part from began quarter)

  -- The quarters before the k-th are right, and end in a state; those from it on are still listed from where their cursors began.
  pub record Mending (first quarter state : ℕ) (start before : List ℕ) (k end : ℕ) (now : List ℕ) : Type 0 where
    pub ended : end ≡ after_from t part first state (k * quarter)
    pub right : (q j : ℕ) → q < k → j < quarter → get_or now (4 * j + q) 0 ≡ after_from t part first state (q * quarter + j + 1)
    pub still : (q : ℕ) → k ≤ q → q < 4 → Listed t part (first + q * quarter) (cursor start q) quarter q now
    pub behind : KeptFrom (4 * quarter) before now
    pub long : length now ≡ length before

  module _ (first quarter state : ℕ) (start : List ℕ) where
    module _ (ends a₀ a₁ : List ℕ) (ran : Ran t part first quarter quarter start ends a₀ a₁) where
      -- The first quarter is right.
      pub mending_start : cursor start 0 ≡ state → Mending first quarter state start a₁ 1 (cursor ends 0) a₁
      mending_start begun = record {
        ended = ran.ended 0 (omega arith) ∙ ap₂ (λ (p s : ℕ). after_from t part p s quarter) here begun ∙ ap (after_from t part first state) (omega arith);
        right = λ q j one l. first_right q (omega arith) j l;
        still = λ q more few. ran.listed q few;
        behind = kept_none (4 * quarter) a₁;
        long = refl;
      }
        where
          here : first + 0 * quarter ≡ first
          here = omega arith

          first_right : (q : ℕ) → q ≡ 0 → (j : ℕ) → j < quarter → get_or a₁ (4 * j + q) 0 ≡ after_from t part first state (q * quarter + j + 1)
          first_right q none j l =
              let reach : j + 1 ≡ 0 * quarter + j + 1 = omega arith in
              rw none ((ran.listed 0 (omega arith)).each j l ∙ ap₂ (λ (p s : ℕ). after_from t part p s (j + 1)) here begun ∙ ap (after_from t part first state) reach)

      -- The k-th quarter can be looked up again, from any state.
      pub mending_ready : (ahead before now : List ℕ) (k end at : ℕ) → LookReady t part first quarter state ahead → length before ≡ length ahead
          → Mending first quarter state start before k end now → k < 4 → at < state_count_in t
          → Ready quarter (first + k * quarter) k at (cursor start k) (cursor ends k) now
      mending_ready ahead before now k end at ready long mending few inside =
          let most : (k + 1) * quarter ≤ 4 * quarter = mul-le-mul_right quarter (omega arith) in (
            again_ready t part first quarter state ahead ready now (mending.long ∙ long) (first + k * quarter) k at few inside (omega (arith, add-mul k 1 quarter)),
            mending.still k (omega arith) few,
            ran.ended k few,
          )

    -- The quarters before the k-th end in a state.
    pub mending_inside : (before now : List ℕ) (k end : ℕ) → Mending first quarter state start before k end now → state < state_count_in t → end < state_count_in t
    mending_inside before now k end mending inside = omega (arith, mending.ended, after_inside t part first state (k * quarter) inside)

    -- It was, from the state in which those before it end.
    pub mending_more : (before now after : List ℕ) (k end at next : ℕ) → Mending first quarter state start before k end now → k < 4 → at ≡ end
        → Mended t part (first + k * quarter) quarter k at next now after → Mending first quarter state start before (k + 1) next after
    mending_more before now after k end at next mending below from_end mended = record {
      ended = mended.ended ∙ joined quarter ((k + 1) * quarter) (omega (arith, add-mul k 1 quarter));
      right = λ q j more l. ⊎_elim
          (λ (e : q ≡ k). rw e (mended.listed.each j l ∙ joined (j + 1) (k * quarter + j + 1) (omega arith)))
          (λ (d : q ≡ k → ⊥). mended.others q j (omega arith) d ∙ mending.right q j (omega arith) l)
          (eq_or_ne q k);
      still = λ q more few.
          listed_kept (first + q * quarter) (cursor start q) quarter q k now after (first + k * quarter) at next few (λ e. omega (arith, more, e)) (mending.still q (omega arith) few) mended;
      behind = kept_over (4 * quarter) (4 * quarter) before now after (omega arith) mending.behind mended.behind;
      long = mended.long ∙ mending.long;
    }
      where
        -- So many bytes on, and some more.
        joined : (n o : ℕ) → o ≡ k * quarter + n → after_from t part (first + k * quarter) at n ≡ after_from t part first state o
        joined n o sum =
            ap (λ (s : ℕ). after_from t part (first + k * quarter) s n) (from_end ∙ mending.ended) ∙ sym (after_add t part first state (k * quarter) n) ∙ ap (after_from t part first state) (sym sum)

    -- All four are right.
    pub mending_all : (before now : List ℕ) (k end : ℕ) → 4 ≤ k → Mending first quarter state start before k end now → Looked t part first quarter state now
    mending_all before now k end all mending = record { each = λ q j few l. mending.right q j (omega arith) l }
