-- What build leaves passes test 12 exactly when the book was accepted: then the memory holds the tables of a book within the limits,
-- and else it is zero up to the published size. Assumes nothing.
use mathlib.Core.Path.{◌≡◌, ap}
use mathlib.Core.Bool.{false, So}
use mathlib.Core.List.{List}
use Prim.Native.Nat.{ℕ, ◌≤◌}
use native.Mathlib.Omega.{arith}
use lib.ListN.{length}
use Rattle.format.specs.Judged.{Judgement, accepted, refused, Judges}
use Rattle.format.proofs.Answers.{number_range}
use Rattle.records.specs.declared.refusals.Refused.{Refused}
use Rattle.records.specs.Refusals.{reason_of}
use Rattle.tables.specs.Layout.{tables_size}
use Rattle.tables.specs.Passing.{tables_pass}
use Rattle.tables.proofs.Passing.{laid_pass, zero_fails}
use Rattle.std.specs.Prelude.{Ok, Err}
use Rattle.builder.specs.declared.answers.BuildError.TheVariants as built
use Rattle.builder.specs.Answers.{Said, said_by, said_of}
use Rattle.builder.specs.Build.{Holds, BuildMeant}

module _ (bytes before after : List ℕ) (large : tables_size ≤ length before) where
  -- Tables left by a successful build pass.
  pub done_passes : (n : ℕ) → BuildMeant bytes before (Ok n) after → So (tables_pass after)
  unfolding said_by said_of Judges Holds
  done_passes n meant = let m = meant.large large in go m.judgement m.true_of m.says m.holds (omega (arith, m.long))
    where
      go : (j : Judgement) → Judges bytes j → said_by (Ok n) ≡ said_of j → Holds j after → tables_size ≤ length after → So (tables_pass after)
      go (accepted book offset) true_of says holds long = laid_pass book true_of.0.within after long holds
      go (refused why offset) true_of says holds long = absurd (omega (arith, ap (λ (s : Said). s.number) says, number_range why))

  -- What a refused book leaves does not.
  pub refused_fails : (told : Refused) → BuildMeant bytes before (Err (built.Refused told)) after → tables_pass after ≡ false
  unfolding said_by said_of Holds
  refused_fails told meant = let m = meant.large large in go m.judgement m.says m.holds
    where
      go : (j : Judgement) → said_by (Err (built.Refused told)) ≡ said_of j → Holds j after → tables_pass after ≡ false
      go (accepted book offset) says holds = absurd (omega (arith, ap (λ (s : Said). s.number) says, number_range (reason_of told.why)))
      go (refused other offset) says holds = zero_fails after holds
