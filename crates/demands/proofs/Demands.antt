-- From build on: what the contracts of build, begin and feed come to together. Build's contract says what stands in the tables, and those of
-- begin and feed what follows from it. Assumes nothing.
use mathlib.Core.Path.{◌≡◌}
use mathlib.Core.Logic.{inl}
use mathlib.Core.Bool.{false}
use mathlib.Core.List.{List, []}
use Prim.Native.Nat.{ℕ, ◌<◌}
use native.Mathlib.Omega.{arith}
use Rattle.meaning.specs.Books.{Book}
use Rattle.format.specs.Judged.{accepted, judged}
use Rattle.tables.specs.Passing.{tables_pass}
use Rattle.builder.specs.Answers.{Built, said_by}
use Rattle.builder.specs.Build.{BuiltRight}
use Rattle.scanner.specs.Exact.{BeginEnd}
use Rattle.scanner.specs.Meant.{TablesOf, BeginDone, FeedRefused}
use Rattle.scanner.specs.Promised.{BeginRefused}
use Rattle.scanner.specs.Letters.{LetterRead}
use Rattle.demands.specs.Desk.{Feed, Desk}
use Rattle.demands.specs.Demands.{AnsweredWith12, LetterAnswered}
use Rattle.demands.proofs.Tables.{tables_large, tables_fail, built_done, tables_of_lem}
use Rattle.demands.proofs.Feeds.{came_to, each_right, feeds_read}

-- After a build that was refused otherwise than with 1, begin and feed on what it left answer 12 and change nothing.
pub refused_build_refuses : (bytes before : List ℕ) (answer : Built) (tables : List ℕ) → BuiltRight bytes before answer tables
    → 1 < (said_by answer).number → AnsweredWith12 tables
refused_build_refuses bytes before answer tables build otherwise = record {
  begin = λ running end large promise.
      let refused : BeginRefused 12 running end = promise.not_tables (tables_large bytes before answer tables build some other) large fail in
      (refused.says, refused.memory_kept);
  feed = λ running part room end large promise.
      let refused : FeedRefused 12 running room end = promise.not_tables (tables_large bytes before answer tables build some other) large (inl fail) in
      (refused.says, refused.memory_kept, refused.room_kept);
}
  where
    some : (said_by answer).number ≡ 0 → ⊥
    some none = omega (arith, otherwise, none)

    other : (said_by answer).number ≡ 1 → ⊥
    other one = omega (arith, otherwise, one)

    fail : tables_pass tables ≡ false
    fail = tables_fail bytes before answer tables build some other

-- A book that is accepted, built, begun with and fed a letter, in any parts and with any rooms: build and begin are done, the reports joined are
-- exactly those of the bytes taken, and the failure steps add up to the definition's, never more than the bytes.
pub built_letter_read : (bytes : List ℕ) (book : Book) (offset : ℕ) → judged bytes ≡ accepted book offset
    → (built : Built) (begun : BeginEnd) (feeds : List Feed) → Desk bytes built begun feeds → LetterAnswered book bytes built begun feeds
unfolding came_to
built_letter_read bytes book offset sound built begun feeds desk =
    let tables : TablesOf book desk.tables = tables_of_lem bytes desk.before built desk.tables desk.build book offset sound desk.tables_large desk.tables_bytes in
    let started : BeginDone book desk.running begun = desk.begin.means book tables desk.running_large desk.running_bytes in
    let read : LetterRead book (came_to begun.memory feeds) = feeds_read desk.tables book tables desk.running begun feeds desk.running_large desk.running_bytes desk.begin desk.feed in
    record {
      built_done = built_done bytes desk.before built desk.tables desk.build book offset sound desk.tables_large;
      begun_done = started.number;
      each_right = each_right desk.tables book tables feeds [] begun.memory started.memory desk.feed;
      all_reports = read.reports_joined;
      all_steps = read.steps_added;
      steps_at_most = omega (arith, read.steps_at_most);
    }
