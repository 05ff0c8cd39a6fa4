-- Each block is the next one of the definition, and once the next has no byte, or one was not taken whole, the blocks are all of them.
-- Assumes nothing.
use mathlib.Core.Path.{◌≡◌, refl, sym, ap, ap₂, ◌∙◌}
use mathlib.Core.Logic.{⊎_elim}
use mathlib.Core.List.{List}
use Prim.Native.Nat.{ℕ, ◌+◌, ◌-◌, ◌*◌, ◌/◌, ◌≤◌, ◌<◌}
use native.Mathlib.Omega.{arith}
use lib.ListN.{length, take}
use lib.Seq.{length-take-le}
use mir.Syntax.{w64}
use mir.Val.{Fits}
use Rattle.tables.specs.Reads.{phrase_count_in}
use Rattle.feeding.specs.Taken.{run_of, free_after, to_come}
use Rattle.feeding.specs.Blocks.{quarter_of, quarter_next, block_taken, all_blocks}
use Rattle.feeding.specs.Ready.{ReadyOn, KeptOn, Took, QuarterFits, BlocksReady, BlockReady, TookBlocks, TookAhead}
use Rattle.feeding.specs.declared.Progress.{Progress}
use Rattle.feeding.proofs.Upto.{upto_stops, kept_start, ready_on, kept_on}
use Rattle.feeding.proofs.Ahead.{quarter_fits, blocks_none, blocks_full, blocks_all, ahead_pass}

-- What holds before each block, whose quarters have so many bytes: with all blocks from here on the run comes to what it comes to with all from the start.
pub record Blocks (t part m₀ room₀ : List ℕ) (phrases free : ℕ) (from : Progress) (m room : List ℕ) (quarter : ℕ) (progress : Progress) : Type 0 where
  pub ready : BlocksReady t m₀ part (length room₀ / 2) from
  pub counted : phrases ≡ phrase_count_in t
  pub spare : free ≡ length room₀ / 2
  pub next : quarter ≡ quarter_next t (length room₀ / 2) part (run_of progress m room)
  pub rest : all_blocks t (length room₀ / 2) part (run_of progress m room) ≡ all_blocks t (length room₀ / 2) part (run_of from m₀ room₀)
  pub kept : KeptOn t part (length room₀ / 2) from progress
  pub long : length m ≡ length m₀
  pub roomy : length room ≡ length room₀

module _ {t m₀ part room₀ : List ℕ} {from : Progress} where
  pub blocks_start : {phrases quarter : ℕ} → BlocksReady t m₀ part (length room₀ / 2) from → phrases ≡ phrase_count_in t → quarter ≡ quarter_of (length part - from.way.taken) (free_after (length room₀ / 2) (run_of from m₀ room₀)) phrases
      → Blocks t part m₀ room₀ phrases (length room₀ / 2) from m₀ room₀ quarter from
  blocks_start ready counted next = record {
    ready = ready;
    counted = counted;
    spare = refl;
    next = rw counted at next;
    rest = refl;
    kept = kept_start ready.on;
    long = refl;
    roomy = refl;
  }

  module _ {m room : List ℕ} {phrases free quarter : ℕ} {progress : Progress} (blocks : Blocks t part m₀ room₀ phrases free from m room quarter progress) where
    block_fits : QuarterFits (length part - progress.way.taken) quarter
    block_fits = rw blocks.next (quarter_fits (length part - progress.way.taken) (free_after (length room₀ / 2) (run_of progress m room)) (phrase_count_in t))

    pub block_counted : phrases < 65536
    block_counted = omega (arith, blocks.counted, blocks.ready.on.ready.phrases)

    -- Its length and its end are numbers that the code can hold.
    pub block_word : Fits w64 (4 * quarter)
    block_word = record { fits = omega (arith, block_fits.short) }

    pub block_end_word : Fits w64 (progress.way.taken + 4 * quarter)
    block_end_word = record { fits = omega (arith, block_fits.short, blocks.kept.kept.within, blocks.ready.on.short) }

    pub block_ready : 0 < quarter → BlockReady t m part (length room / 2) quarter progress
    block_ready some = record {
      blocks = record { on = rw blocks.roomy (ready_on blocks.ready.on blocks.kept blocks.long); fit = blocks.ready.fit };
      fits = block_fits;
      some = some;
    }

    -- The next has no byte: these were all blocks.
    pub blocks_done : quarter ≤ 0 → TookBlocks t part (length room₀ / 2) m₀ room₀ from m room progress
    blocks_done none = record {
      all = sym (blocks_none t (length room₀ / 2) part (length part) (run_of progress m room) blocks.kept.kept.within (omega (arith, blocks.next))) ∙ blocks.rest;
      kept = blocks.kept;
    }

    -- One more was taken.
    module _ {m₁ room₁ : List ℕ} {to : Progress} (took : Took t (take (progress.way.taken + 4 * quarter) part) (length room / 2) m room progress m₁ room₁ to) where
      abbrev end : ℕ
      end = progress.way.taken + 4 * quarter

      end_within : end ≤ length part
      end_within = omega (arith, block_fits.within, blocks.kept.kept.within)

      here : Took t (take end part) (length room₀ / 2) m room progress m₁ room₁ to
      here = rw blocks.roomy at took

      pub block_kept : KeptOn t part (length room₀ / 2) from to
      block_kept = kept_on (omega (arith, length-take-le end part end_within, end_within)) blocks.kept here.kept

      -- It is the next block of the definition.
      is_next : run_of to m₁ room₁ ≡ block_taken t (length room₀ / 2) part (run_of progress m room)
      unfolding block_taken
      is_next = here.all ∙ ap (λ (q : ℕ). to_come t (length room₀ / 2) (take (progress.way.taken + 4 * q) part) (run_of progress m room)) blocks.next

      onward : all_blocks t (length room₀ / 2) part (run_of to m₁ room₁) ≡ all_blocks t (length room₀ / 2) part (run_of from m₀ room₀)
      onward =
          ap (all_blocks t (length room₀ / 2) part) is_next ∙ blocks_all t (length room₀ / 2) part (run_of progress m room) blocks.kept.kept.within ∙ blocks.rest

      -- It was not taken whole: these were all blocks.
      pub block_stopped : to.way.taken < end → TookBlocks t part (length room₀ / 2) m₀ room₀ from m₁ room₁ to
      block_stopped short = record {
        all = ⊎_elim
            (λ (whole : to.way.taken ≡ end). absurd (omega arith))
            (λ (full : free_after (length room₀ / 2) (run_of to m₁ room₁) < phrase_count_in t).
            sym (blocks_full t (length room₀ / 2) part (length part) (run_of to m₁ room₁) block_kept.kept.within full) ∙ onward)
            (upto_stops t (length room₀ / 2) part end (run_of progress m room) (run_of to m₁ room₁) end_within (omega arith) here.all);
        kept = block_kept;
      }

      -- It was taken whole: fewer bytes remain.
      pub block_less : 0 < quarter → end ≤ to.way.taken → length part - to.way.taken < length part - progress.way.taken
      block_less some whole = omega (arith, block_kept.kept.within)

      pub blocks_next : {after : ℕ} → after ≡ quarter_of (length part - to.way.taken) (free_after free (run_of to m₁ room₁)) phrases → length m₁ ≡ length m → length room₁ ≡ length room
          → Blocks t part m₀ room₀ phrases free from m₁ room₁ after to
      blocks_next next long roomy = record {
        ready = blocks.ready;
        counted = blocks.counted;
        spare = blocks.spare;
        next = next ∙ ap₂ (λ (f p : ℕ). quarter_of (length part - to.way.taken) (free_after f (run_of to m₁ room₁)) p) blocks.spare blocks.counted;
        rest = onward;
        kept = block_kept;
        long = long ∙ blocks.long;
        roomy = roomy ∙ blocks.roomy;
      }

-- And then the rest of the part.
module _ {t part m₀ room₀ m room : List ℕ} {from mid : Progress} (on : ReadyOn t m₀ part (length room₀ / 2) from)
    (ahead : TookAhead t part (length room₀ / 2) m₀ room₀ from m room mid) (roomy : length room ≡ length room₀) where
  pub rest_ready : length m ≡ length m₀ → ReadyOn t m part (length room / 2) mid
  rest_ready long = rw roomy (ready_on on ahead.kept long)

  pub rest_took : {m₁ room₁ : List ℕ} {to : Progress} → Took t part (length room / 2) m room mid m₁ room₁ to → Took t part (length room₀ / 2) m₀ room₀ from m₁ room₁ to
  rest_took {m₁} {room₁} {to} took =
      let here : Took t part (length room₀ / 2) m room mid m₁ room₁ to = rw roomy at took in
      record {
        all = here.all ∙ ap (to_come t (length room₀ / 2) part) ahead.all ∙ ahead_pass t (length room₀ / 2) part (run_of from m₀ room₀) on.kept.within;
        kept = kept_on (omega arith) ahead.kept here.kept;
      }
