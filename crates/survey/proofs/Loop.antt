-- The loop keeps: reading on from here leads to the whole survey. Assumes nothing.
use mathlib.Core.Path.{◌≡◌, refl, sym, ◌∙◌}
use mathlib.Core.List.{List}
use Prim.Native.Nat.{ℕ, zero, suc, ◌+◌, ◌≤◌, ◌<◌}
use native.Mathlib.Omega.{arith}
use lib.ListN.{length}
use borrow.Author.Tests.{lt-ltb, le-ltb}
use Rattle.survey.specs.Progress.{at_start}
use Rattle.survey.specs.Turns.{Notes, Reading, reading, turn_at}
use Rattle.survey.specs.Survey.{read_on, surveyed}
use Rattle.survey.proofs.Onward.{turn_ahead, turn_long}

module _ (bytes : List ℕ) (now : Reading) where
  -- One record more is read where one begins,
  pub read_more : (n : ℕ) → now.progress.at < length bytes → read_on (suc n) bytes now ≡ read_on n bytes (turn_at bytes now)
  unfolding read_on
  read_more n more = rw (lt-ltb now.progress.at (length bytes) more)

  -- and none at the end.
  pub read_done : (n : ℕ) → length bytes ≤ now.progress.at → read_on n bytes now ≡ now
  unfolding read_on
  read_done zero past = refl
  read_done (suc n) past = rw (le-ltb now.progress.at (length bytes) past)

-- Reading on from here leads to the whole survey, and the table memory is as long as it was.
pub record Going (bytes : List ℕ) (before : Notes) (now : Reading) : Type 0 where
  pub fuel : ℕ
  pub enough : length bytes ≤ fuel + now.progress.at
  pub rest : read_on fuel bytes now ≡ surveyed bytes before
  pub long : length now.notes.tables ≡ length before.tables

module _ (bytes : List ℕ) (before : Notes) where
  -- It holds before the first record,
  pub going_start : (now : Reading) → now ≡ reading at_start before → Going bytes before now
  unfolding surveyed
  going_start now is = rw is record { fuel = length bytes; enough = omega arith; rest = refl; long = refl }

  module _ (now : Reading) (going : Going bytes before now) where
    -- after each turn, which goes on ahead,
    pub going_more : now.progress.at < length bytes → (next : Reading) → next ≡ turn_at bytes now → (now.progress.at < next.progress.at) × Going bytes before next
    going_more more next is = rw is (turn_ahead bytes now more, by going.fuel going.enough going.rest)
      where
        by : (n : ℕ) → length bytes ≤ n + now.progress.at → read_on n bytes now ≡ surveyed bytes before → Going bytes before (turn_at bytes now)
        by zero enough rest = absurd (omega arith)
        by (suc n) enough rest = record {
          fuel = n;
          enough = omega (arith, turn_ahead bytes now more);
          rest = sym (read_more bytes now n more) ∙ rest;
          long = turn_long bytes now ∙ going.long;
        }

    -- and at the end the survey is done.
    pub going_done : length bytes ≤ now.progress.at → now ≡ surveyed bytes before
    going_done past = sym (read_done bytes now going.fuel past) ∙ going.rest
