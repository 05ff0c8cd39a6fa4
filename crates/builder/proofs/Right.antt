-- The exact reading is right: too small memory is refused with 1, and for any other what the format judges is the answer, and the
-- cleared memory holds what the judgement leads to. Assumes nothing.
use mathlib.Core.Path.{◌≡◌, refl, sym, ap, subst, ◌∙◌}
use mathlib.Core.Logic.{inr}
use mathlib.Core.List.{List}
use Prim.Native.Nat.{ℕ, ◌≤◌, ◌<◌}
use native.Mathlib.Omega.{arith}
use lib.ListN.{length, get_or}
use borrow.Author.Tests.{lt-ltb, le-ltb}
use Rattle.lent.specs.Numbers.{Bytes}
use Rattle.lent.proofs.Zeros.{length_zeros, zeros_there, zeros_apart}
use Rattle.meaning.specs.Books.{Book}
use Rattle.format.specs.Refusals as format
use Rattle.format.specs.Refusals.{refusal_number}
use Rattle.format.specs.Judged.{Judgement, accepted, refused, judged, AcceptedAs, Judges}
use Rattle.format.proofs.Theorem.{judged_judges}
use Rattle.records.proofs.Bytes.{all_bytes}
use Rattle.records.proofs.Names.{refusal_said}
use Rattle.tables.specs.Layout.{tables_size}
use Rattle.std.specs.Prelude.{Err}
use Rattle.builder.specs.declared.answers.BuildError.TheVariants.{TooSmall}
use Rattle.builder.specs.Answers.{Built, said, said_by, said_of}
use Rattle.builder.specs.Passes.{Fresh}
use Rattle.builder.specs.Build.{Outcome, outcome, blank_of, outcome_of, build_of, Holds, Judged, BuildMeant, BuiltRight}
use Rattle.builder.proofs.Filled.{tables_long, tables_past, tables_laid}

-- ── In memory of the published size ──

module _ (bytes before : List ℕ) (each : Bytes bytes) (large : tables_size ≤ length before) where
  abbrev blank : List ℕ
  blank = blank_of before

  blank_long : length blank ≡ length before
  unfolding blank_of tables_size
  blank_long = length_zeros before 0 _

  blank_zero : (k : ℕ) → k < tables_size → get_or blank k 0 ≡ 0
  unfolding blank_of tables_size
  blank_zero k l = zeros_there before 0 _ (omega arith) k (omega arith) (omega arith)

  blank_past : (k : ℕ) → tables_size ≤ k → get_or blank k 0 ≡ get_or before k 0
  unfolding blank_of tables_size
  blank_past k l = zeros_apart before 0 _ k (inr (omega arith))

  -- An accepted book may be filled in.
  pub blank_fresh : (b : Book) → AcceptedAs bytes b → Fresh b bytes blank
  unfolding tables_size
  blank_fresh b accepts = record {
    accepted = accepts;
    whole = omega (arith, blank_long);
    zeros = λ k a l. blank_zero k (omega arith);
  }

  -- Whatever is judged of the book, what it leads to is right.
  outcome_judged : (j : Judgement) → Judges bytes j → Judged bytes before (outcome_of bytes blank j).answer (outcome_of bytes blank j).tables
  unfolding Judges outcome_of said_by said_of Holds
  outcome_judged (accepted b offset) true_of =
      let fresh : Fresh b bytes blank = blank_fresh b true_of.0 in
      record {
        judgement = accepted b offset;
        true_of = true_of;
        says = refl;
        holds = tables_laid b bytes blank each fresh blank_zero;
        past = λ k l. tables_past b bytes blank each fresh blank_zero k l ∙ blank_past k l;
        long = tables_long b bytes blank each fresh blank_zero ∙ blank_long;
      }
  outcome_judged (refused why offset) true_of = record {
    judgement = refused why offset;
    true_of = true_of;
    says = ap (λ (r : format.Refusal). said (refusal_number r) offset) (refusal_said why);
    holds = λ k a l. blank_zero k l;
    past = blank_past;
    long = blank_long;
  }

-- ── For all that can be lent ──

module _ (bytes before : List ℕ) where
  pub build_small : length before < tables_size → build_of bytes before ≡ outcome (Err TooSmall) before
  unfolding build_of
  build_small l = rw (lt-ltb (length before) tables_size l)

  pub build_large : tables_size ≤ length before → build_of bytes before ≡ outcome_of bytes (blank_of before) (judged bytes)
  unfolding build_of
  build_large l = rw (le-ltb (length before) tables_size l)

  module _ (each : Bytes bytes) where
    pub build_meant : BuildMeant bytes before (build_of bytes before).answer (build_of bytes before).tables
    unfolding said_by
    build_meant = record {
      small = λ l. rw (build_small l) (record { says = refl; same = refl });
      large = λ l. rw (build_large l) (outcome_judged bytes before each l (judged bytes) (judged_judges bytes (all_bytes bytes each)));
    }

    -- What is exactly so is right.
    pub exact_right : (answer : Built) (after : List ℕ) → outcome answer after ≡ build_of bytes before → BuiltRight bytes before answer after
    exact_right answer after exact = record {
      exact = exact;
      meant = subst (λ (o : Outcome). BuildMeant bytes before o.answer o.tables) (sym exact) build_meant;
    }
