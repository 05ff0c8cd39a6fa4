-- What build's contract says of the tables: where the answer's number is not 0 or 1 they don't pass test 12, and where the book is accepted they are
-- the book's. Assumes nothing.
use mathlib.Core.Path.{◌≡◌, refl, sym, ap, ◌∙◌}
use mathlib.Core.Logic.{⊎_elim}
use mathlib.Core.Bool.{false}
use mathlib.Core.List.{List}
use Prim.Native.Nat.{ℕ, ◌≤◌, ◌<◌}
use native.Mathlib.Omega.{arith}
use lib.ListN.{length}
use Rattle.lent.specs.Numbers.{Bytes}
use Rattle.lent.proofs.Cases.{lt_or_le}
use Rattle.meaning.specs.Books.{Book}
use Rattle.format.specs.Judged.{Judgement, accepted, judged, Judges}
use Rattle.format.proofs.Theorem.{judges_judged}
use Rattle.tables.specs.Layout.{tables_size}
use Rattle.tables.specs.Passing.{tables_pass}
use Rattle.std.specs.Prelude.{Ok, Err}
use Rattle.builder.specs.declared.answers.BuildError.TheVariants.{TooSmall, Refused}
use Rattle.builder.specs.Answers.{Built, Said, said, said_by, said_of}
use Rattle.builder.specs.Build.{Holds, Judged, BuiltRight}
use Rattle.builder.proofs.Passed.{refused_fails}
use Rattle.scanner.specs.Meant.{TablesOf}

module _ (bytes before : List ℕ) (answer : Built) (tables : List ℕ) (build : BuiltRight bytes before answer tables) where
  -- ── Refused otherwise than with 1 ──

  module _ (refused : (said_by answer).number ≡ 0 → ⊥) (otherwise : (said_by answer).number ≡ 1 → ⊥) where
    -- Then the memory was of the published size, since else the number is 1.
    before_large : tables_size ≤ length before
    before_large = ⊎_elim
        (λ (small : length before < tables_size). absurd (otherwise (ap (λ (s : Said). s.number) (build.meant.small small).says)))
        (λ (large : tables_size ≤ length before). large)
        (lt_or_le (length before) tables_size)

    pub tables_large : tables_size ≤ length tables
    tables_large = omega (arith, before_large, (build.meant.large before_large).long)

    pub tables_fail : tables_pass tables ≡ false
    unfolding said_by
    tables_fail = go answer build refused otherwise
      where
        go : (a : Built) → BuiltRight bytes before a tables → ((said_by a).number ≡ 0 → ⊥) → ((said_by a).number ≡ 1 → ⊥) → tables_pass tables ≡ false
        go (Ok n) right some other = absurd (some refl)
        go (Err TooSmall) right some other = absurd (other refl)
        go (Err (Refused told)) right some other = refused_fails bytes before tables before_large told right.meant

  -- ── Accepted ──

  module _ (book : Book) (offset : ℕ) (sound : judged bytes ≡ accepted book offset) (large : tables_size ≤ length before) where
    right : Judged bytes before answer tables
    right = build.meant.large large

    -- The judgement of the contract is the one that judges the bytes.
    judgement_is : right.judgement ≡ accepted book offset
    judgement_is = sym (judges_judged bytes right.judgement right.true_of) ∙ sound

    pub built_done : said_by answer ≡ said 0 (length bytes)
    unfolding Judges said_of
    built_done = go right.judgement judgement_is right.true_of right.says
      where
        go : (j : Judgement) → j ≡ accepted book offset → Judges bytes j → said_by answer ≡ said_of j → said_by answer ≡ said 0 (length bytes)
        go j e true_of says = says ∙ ap said_of e ∙ ap (said 0) (rw e at true_of).1

    pub tables_of_lem : Bytes tables → TablesOf book tables
    unfolding Judges Holds
    tables_of_lem each = go right.judgement judgement_is right.true_of right.holds
      where
        go : (j : Judgement) → j ≡ accepted book offset → Judges bytes j → Holds j tables → TablesOf book tables
        go j e true_of holds = record {
          limits = (rw e at true_of).0.within;
          long = omega (arith, large, right.long);
          laid = rw e at holds;
          bytes = each;
        }
