-- Each way through build comes to the exact reading: judge's answer tells the judgement, and the judgement tells the rest.
-- Assumes nothing.
use mathlib.Core.Path.{◌≡◌, sym, ap, ap₂, ◌∙◌}
use mathlib.Core.List.{List}
use Prim.Native.Nat.{ℕ, ◌≤◌}
use native.Mathlib.Omega.{arith}
use lib.ListN.{length}
use Rattle.lent.specs.Numbers.{Bytes}
use Rattle.meaning.specs.Books.{Book}
use Rattle.format.specs.Judged.{Judgement, accepted, refused, Answer, answer_of, judged}
use Rattle.format.proofs.Answers.{number_range, number_once}
use Rattle.records.specs.declared.refusals.Refusal.{Refusal}
use Rattle.records.specs.declared.refusals.Refused.{Refused}
use Rattle.book.specs.declared.answers.Accepted.{Accepted}
use Rattle.records.specs.Refusals.{reason_of}
use Rattle.book.specs.Answers.{said_by, JudgedRight}
use Rattle.records.proofs.Names.{reason_back}
use Rattle.book.proofs.Answered.{accepted_means}
use Rattle.tables.specs.Layout.{tables_size}
use Rattle.std.specs.Prelude.{Result, Ok, Err, IsErrAnd}
use Rattle.builder.specs.declared.answers.BuildError.TheVariants as built
use Rattle.builder.specs.Passes.{Fresh}
use Rattle.builder.specs.Answers.{Built}
use Rattle.builder.specs.Build.{outcome, outcome_of, blank_of, build_of}
use Rattle.builder.proofs.Right.{blank_fresh, build_large}

-- An error that is passed on is what is answered.
pub passed_on : {T E : Type 0} (answer : Result T E) (why : E) → IsErrAnd answer (λ error. error ≡ why) → answer ≡ Err why
passed_on (Ok value) why is = absurd is
passed_on (Err error) why is = ap Err is

-- ── Judge's answer tells the judgement ──

accepted_judgement : (told : Accepted) (j : Judgement) → said_by (Ok told) ≡ answer_of j → (b : Book) × (j ≡ accepted b told.length)
unfolding said_by answer_of
accepted_judgement told (accepted b offset) e = (b, ap (accepted b) (sym (ap (λ (a : Answer). a.offset) e)))
accepted_judgement told (refused why offset) e = absurd (omega (arith, ap (λ (a : Answer). a.number) e, number_range why))

refused_judgement : (told : Refused) (j : Judgement) → said_by (Err told) ≡ answer_of j → j ≡ refused (reason_of told.why) told.at
unfolding said_by answer_of
refused_judgement told (accepted b offset) e = absurd (omega (arith, ap (λ (a : Answer). a.number) e, number_range (reason_of told.why)))
refused_judgement told (refused other offset) e =
    ap₂ refused (sym (number_once (reason_of told.why) other (ap (λ (a : Answer). a.number) e))) (sym (ap (λ (a : Answer). a.offset) e))

-- ── The ways of memory that is large enough ──

module _ (bytes before : List ℕ) (each : Bytes bytes) (large : 49152 ≤ length before) where
  pub accepted_way : (told : Accepted) → JudgedRight bytes (Ok told) → (b : Book) × (build_of bytes before ≡ outcome_of bytes (blank_of before) (accepted b told.length))
  unfolding tables_size
  accepted_way told right =
      let is = accepted_judgement told (judged bytes) right.exact in
      (is.0, build_large bytes before large ∙ ap (outcome_of bytes (blank_of before)) is.1)

  pub refused_way : (told : Refused) → JudgedRight bytes (Err told) → (after : List ℕ) → after ≡ blank_of before
      → outcome (Err (built.Refused told)) after ≡ build_of bytes before
  unfolding tables_size outcome_of
  refused_way told right after is =
      ap₂ outcome (ap {B = Built} (λ (why : Refusal). Err (built.Refused (record { why = why; at = told.at }))) (sym (reason_back told.why))) is
      ∙ sym (build_large bytes before large ∙ ap (outcome_of bytes (blank_of before)) (refused_judgement told (judged bytes) right.exact))

  -- A book that judge accepts may be filled in.
  pub accepted_fresh : (told : Accepted) → JudgedRight bytes (Ok told) → (b : Book) × Fresh b bytes (blank_of before)
  unfolding tables_size
  accepted_fresh told right =
      let sound = accepted_means bytes told.length told.phrases right.meant in
      (sound.0, blank_fresh bytes before each large sound.0 sound.1)
