-- Test 12 for running memory: what feed asks of the lent bytes, beside tables, before it reads them. Its time is constant.
-- Assumes nothing: these are definitions.
use Rattle.std.specs.Prelude.{◌≡◌, Bool, not, ◌&&◌, ◌||◌, List, ℕ, ◌≤◌, ◌<◌, ltb, leb, eqb, length}
use Rattle.meaning.specs.Calls.{largest_place}
use Rattle.lent.specs.Numbers.{number_at}
use Rattle.tables.specs.Layout.{tables_size}
use Rattle.tables.specs.Reads.{state_count_in, mark_in}
use Rattle.running.specs.Layout.{running_size, tag_at, state_at, place_at, mark_at, running_tag}

-- ── The head of running memory ──

abbrev pub tag_held : List ℕ → ℕ
tag_held m = number_at 8 m tag_at

abbrev pub state_held : List ℕ → ℕ
state_held m = number_at 2 m state_at

abbrev pub place_held : List ℕ → ℕ
place_held m = number_at 8 m place_at

abbrev pub mark_held : List ℕ → ℕ
mark_held m = number_at 8 m mark_at

-- The tag that is asked for: that of begun memory, which is never zero.
abbrev pub tag_asked : ℕ
tag_asked = running_tag

-- Lent table memory or running memory is below its published size.
unfoldable pub too_small : List ℕ → List ℕ → Bool
too_small t m = ltb (length t) tables_size || ltb (length m) running_size

-- The lent bytes pass: both memories are as long as published; the running memory begins with the tag of begun memory, its state is one of
-- the tables', its place is not past the largest, and its mark is the tables'.
pub record RunningPass (t m : List ℕ) : Type 0 where
  pub tables : tables_size ≤ length t
  pub memory : running_size ≤ length m
  pub tag : tag_held m ≡ tag_asked
  pub state : state_held m < state_count_in t
  pub place : place_held m ≤ largest_place
  pub mark : mark_held m ≡ mark_in t

-- The same as a test.
unfoldable pub running_pass : List ℕ → List ℕ → Bool
running_pass t m =
    not (too_small t m)
    && (eqb (tag_held m) tag_asked
    && (ltb (state_held m) (state_count_in t)
    && (leb (place_held m) largest_place
    && eqb (mark_held m) (mark_in t))))
