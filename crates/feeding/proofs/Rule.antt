-- The taking rule holds for any tables: the first byte is taken exactly when there is room, and the rest follows the rule from there.
-- Assumes nothing.
use mathlib.Core.Path.{◌≡◌, refl, ap}
use mathlib.Core.Logic.{inl, inr, ⊎_elim}
use mathlib.Core.Bool.{Bool, true, false, cond}
use mathlib.Core.List.{List, [], ◌∷◌}
use Prim.Native.Nat.{ℕ, zero, suc, ◌≤◌, ◌<◌}
use native.Mathlib.Omega.{arith}
use lib.Dec.{ltb}
use lib.ListN.{length, take}
use borrow.Author.Tests.{ltb-true, ltb-false}
use Rattle.tables.specs.Reads.{phrase_count_in}
use Rattle.feeding.specs.Taken.{Run, byte_taken, free_after, part_taken}
use Rattle.feeding.specs.Rule.{all_taken, TookBytes}

-- How many bytes were taken.
abbrev pub Some : List ℕ → ℕ → List ℕ → Run → Run → Type 0
Some t room part before after = (count : ℕ) × TookBytes t room part before after count

module _ (t : List ℕ) (room : ℕ) where
  -- For every call, whatever the tables and the running memory hold, the bytes taken follow the rule.
  pub rule_kept : (part : List ℕ) (run : Run) → Some t room part run (part_taken t room part run)
  unfolding part_taken all_taken byte_taken
  rule_kept [] run = (0, record { offered = omega arith; taken = omega arith; these = refl; enough = λ k l. absurd (omega arith); stops = inl refl })
  rule_kept (a ∷ part) run = go (ltb (free_after room run) (phrase_count_in t)) refl (rule_kept part (byte_taken t run a))
    where
      next : Run
      next = byte_taken t run a

      go : (v : Bool) → ltb (free_after room run) (phrase_count_in t) ≡ v → Some t room part next (part_taken t room part next)
          → Some t room (a ∷ part) run (cond v run (part_taken t room part next))
      go true full rest = (
        0,
        record {
          offered = omega arith;
          taken = omega arith;
          these = refl;
          enough = λ k l. absurd (omega arith);
          stops = inr (ltb-true (free_after room run) (phrase_count_in t) full);
        },
      )
      go false free rest = (
        suc rest.0,
        record {
          offered = omega (arith, rest.1.offered);
          taken = omega (arith, rest.1.taken);
          these = rest.1.these;
          enough = each;
          stops = ⊎_elim (λ (s : rest.0 ≡ length part). inl (ap suc s)) (λ s. inr s) rest.1.stops;
        },
      )
        where
          each : (k : ℕ) → k < suc rest.0 → phrase_count_in t ≤ free_after room (all_taken t (take k (a ∷ part)) run)
          each zero l = ltb-false (free_after room run) (phrase_count_in t) free
          each (suc k) l = rest.1.enough k (omega arith)
