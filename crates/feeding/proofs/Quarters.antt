-- The quarters of a block, one after the other: the states ahead are right for each where the ones before it were taken whole, and behind one that was not
-- there is no room for another byte.
-- Assumes nothing.
use mathlib.Core.Path.{◌≡◌, refl, sym, ap, ◌∙◌}
use mathlib.Core.List.{List}
use Prim.Native.Nat.{ℕ, ◌+◌, ◌-◌, ◌*◌, ◌/◌, ◌≤◌, ◌<◌}
use native.Mathlib.Nat.{add-mul, mul-le-mul_right}
use native.Mathlib.Omega.{arith}
use lib.ListN.{length, take}
use lib.Seq.{length-take-le, get_or-take}
use mir.Syntax.{w64}
use mir.Val.{Fits}
use Rattle.seeking.specs.Foreseen.{after_from}
use Rattle.seeking.proofs.Foreseen.{looked_quarter}
use Rattle.feeding.specs.Taken.{run_of}
use Rattle.feeding.specs.Ready.{Took, QuarterReady, QuartersReady}
use Rattle.feeding.specs.declared.Progress.{Progress}
use Rattle.feeding.proofs.Upto.{upto_none, upto_upto, upto_stopped, upto_state, kept_start, ready_upto, kept_on}

-- What holds before quarter k, which begins at `end`: the bytes up to there were taken.
pub record Quarters (t part states : List ℕ) (quarter : ℕ) (m₀ room₀ : List ℕ) (from : Progress) (m room : List ℕ) (end : ℕ) (progress : Progress) (k : ℕ) : Type 0 where
  pub ready : QuartersReady t m₀ part (length room₀ / 2) states quarter from
  pub few : k ≤ 4
  pub reached : end ≡ from.way.taken + k * quarter
  pub whole : progress.way.taken ≡ end
  pub took : Took t (take end part) (length room₀ / 2) m₀ room₀ from m room progress
  pub long : length m ≡ length m₀
  pub roomy : length room ≡ length room₀

-- Where a block ends.
abbrev block_end : Progress → ℕ → ℕ
block_end from quarter = from.way.taken + 4 * quarter

module _ {t m₀ part room₀ states : List ℕ} {quarter : ℕ} {from : Progress} where
  pub quarters_start : QuartersReady t m₀ part (length room₀ / 2) states quarter from → Quarters t part states quarter m₀ room₀ from m₀ room₀ from.way.taken from 0
  quarters_start ready = record {
    ready = ready;
    few = omega arith;
    reached = omega arith;
    whole = refl;
    took = record {
      all = sym (upto_none t (length room₀ / 2) part (run_of from m₀ room₀) ready.on.kept.within);
      kept = record {
        kept = record {
          inside = ready.on.kept.inside;
          within = omega (arith, length-take-le from.way.taken part ready.on.kept.within);
          few_gains = ready.on.kept.few_gains;
        };
        few = ready.on.few;
        early = omega arith;
      };
    };
    long = refl;
    roomy = refl;
  }

  module _ {m room : List ℕ} {end : ℕ} {progress : Progress} {k : ℕ} (quarters : Quarters t part states quarter m₀ room₀ from m room end progress k) where
    pub begun : from.way.taken ≤ end
    begun = omega (arith, quarters.reached)

    -- The state is that after the quarters before.
    state : end ≤ length part → progress.way.state.0 ≡ after_from t part from.way.taken from.way.state.0 (k * quarter)
    state within =
        let count : progress.way.taken - from.way.taken ≡ k * quarter = omega (arith, quarters.whole, quarters.reached) in
        upto_state t (length room₀ / 2) part end (run_of from m₀ room₀) (run_of progress m room) within begun quarters.took.all
        ∙ ap (after_from t part from.way.taken from.way.state.0) count

    -- Four quarters are the block.
    pub quarters_all : 4 ≤ k → Took t (take (block_end from quarter) part) (length room₀ / 2) m₀ room₀ from m room progress
    quarters_all all =
        let four : k ≡ 4 = omega (arith, quarters.few) in
        let last : end ≡ block_end from quarter = quarters.reached ∙ ap (λ (n : ℕ). from.way.taken + n * quarter) four in
        rw last at quarters.took

    module _ (more : k < 4) where
      bound : end + quarter ≤ block_end from quarter
      bound =
          let most : (k + 1) * quarter ≤ 4 * quarter = mul-le-mul_right quarter (omega arith) in
          omega (arith, quarters.reached, add-mul k 1 quarter)

      quarter_within : end + quarter ≤ length part
      quarter_within = omega (arith, bound, quarters.ready.within)

      -- Its end is a number that the code can hold.
      pub quarter_word : Fits w64 (end + quarter)
      quarter_word = record { fits = omega (arith, quarter_within, quarters.ready.on.short) }

      pub quarter_long : length (take (end + quarter) part) ≡ end + quarter
      quarter_long = length-take-le (end + quarter) part quarter_within

      pub quarter_ready : QuarterReady t m (take (end + quarter) part) (length room / 2) states k progress
      quarter_ready = record {
        on = rw quarters.roomy (ready_upto quarters.ready.on (kept_on {first = part} (omega (arith, length-take-le end part (omega (arith, quarter_within)), quarter_within)) (kept_start quarters.ready.on) quarters.took.kept) quarters.long (take (end + quarter) part) (omega (arith, quarter_long, quarter_within)) (omega (arith, quarter_long, quarters.whole)));
        of_four = more;
        foreseen = rw (quarters.whole ∙ quarters.reached, state (omega (arith, quarter_within))) (looked_quarter t part (take (end + quarter) part) from.way.taken quarter from.way.state.0 k states quarters.ready.looked more (omega (arith, quarter_long, quarters.reached)) (λ i l. sym (get_or-take (end + quarter) part i 0 (omega (arith, quarter_long)))));
        room_for = omega (arith, quarters.ready.room_for, quarter_long, quarters.whole);
      }

      module _ {m₁ room₁ : List ℕ} {to : Progress} (took : Took t (take (end + quarter) part) (length room / 2) m room progress m₁ room₁ to) where
        -- All bytes up to the end of this quarter were taken for which there is room.
        upto_here : Took t (take (end + quarter) part) (length room₀ / 2) m₀ room₀ from m₁ room₁ to
        upto_here =
            let here : Took t (take (end + quarter) part) (length room₀ / 2) m room progress m₁ room₁ to = rw quarters.roomy at took in
            record {
              all = here.all
                  ∙ upto_upto t (length room₀ / 2) part end (end + quarter) (run_of from m₀ room₀) (run_of progress m room) quarter_within (omega arith) begun quarters.took.all;
              kept = kept_on (omega arith) quarters.took.kept here.kept;
            }

        -- The quarter was not taken whole, and so no byte of the block behind it is taken.
        pub quarter_stopped : to.way.taken < end + quarter → Took t (take (block_end from quarter) part) (length room₀ / 2) m₀ room₀ from m₁ room₁ to
        quarter_stopped short = record {
          all = upto_stopped t (length room₀ / 2) part (end + quarter) (block_end from quarter) (run_of from m₀ room₀) (run_of to m₁ room₁) quarters.ready.within bound (omega (arith, begun)) upto_here.all short;
          kept = kept_on (omega (arith, quarter_long, length-take-le (block_end from quarter) part quarters.ready.within, bound)) (kept_start quarters.ready.on) upto_here.kept;
        }

        pub quarter_next_lem : end + quarter ≤ to.way.taken → length m₁ ≡ length m → length room₁ ≡ length room
            → Quarters t part states quarter m₀ room₀ from m₁ room₁ (end + quarter) to (k + 1)
        quarter_next_lem whole same roomy = record {
          ready = quarters.ready;
          few = omega arith;
          reached = omega (arith, quarters.reached, add-mul k 1 quarter);
          whole = omega (arith, upto_here.kept.kept.within, quarter_long);
          took = upto_here;
          long = same ∙ quarters.long;
          roomy = roomy ∙ quarters.roomy;
        }
