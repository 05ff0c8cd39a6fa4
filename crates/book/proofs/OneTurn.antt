-- A turn comes out as its tests do: a test that holds refuses, and else the next one is looked at. Assumes nothing.
use mathlib.Core.Path.{◌≡◌, sym, ap, ◌∙◌}
use mathlib.Core.Bool.{Bool, true, false}
use mathlib.Core.List.{List}
use Prim.Native.Nat.{ℕ, ◌+◌, ◌-◌, ◌≤◌, ◌<◌}
use lib.ListN.{get_or}
use borrow.Author.Tests.{lt-ltb, le-ltb}
use Rattle.std.proofs.Common.{Result, Err}
use Rattle.meaning.specs.Matching.{bytes_after}
use Rattle.format.specs.Prefixes.{most_shared}
use Rattle.format.specs.Limits.{most_prefixes}
use Rattle.records.specs.declared.refusals.Refusal.TheVariants.{Kind, Full}
use Rattle.records.specs.declared.refusals.Refused.{Refused}
use Rattle.records.specs.declared.records.Found.{Found}
use Rattle.records.specs.Prefixes.{keywords_before}
use Rattle.book.specs.declared.progress.Stage.{Stage}
use Rattle.book.specs.declared.progress.Stage.TheVariants.{Worded}
use Rattle.book.specs.declared.progress.Tally.{Tally}
use Rattle.book.specs.Judging.{Turn, to, prefixes_with, keyword_turn, allowed_of, found_turn, turn_at}

-- ── A keyword ──

module _ (bytes : List ℕ) (tally : Tally) (start count at : ℕ) {shared : ℕ} (is : shared ≡ most_shared (keywords_before bytes at) (bytes_after start count bytes)) where
  with_new : prefixes_with bytes tally start count at ≡ tally.prefixes + (count - shared)
  unfolding prefixes_with
  with_new = ap (λ (n : ℕ). tally.prefixes + (count - n)) (sym is)

  pub keyword_full : most_prefixes < tally.prefixes + (count - shared) → Err Full ≡ keyword_turn bytes tally start count at
  unfolding keyword_turn
  keyword_full above = rw (with_new, lt-ltb most_prefixes (tally.prefixes + (count - shared)) above)

  pub keyword_stands : tally.prefixes + (count - shared) ≤ most_prefixes
      → to Worded (record { phrases = tally.phrases; last = tally.last; own = tally.own + 1; pieces = tally.pieces + 1; prefixes = tally.prefixes + (count - shared) })
      ≡ keyword_turn bytes tally start count at
  unfolding keyword_turn
  keyword_stands below = rw (with_new, le-ltb most_prefixes (tally.prefixes + (count - shared)) below)

-- ── Any record ──

module _ (bytes : List ℕ) (at : ℕ) (stage : Stage) (tally : Tally) where
  pub turn_kind : (found : Result Found Refused) {allows : Bool} → allows ≡ allowed_of stage (get_or bytes at 0) → allows ≡ false → Err Kind ≡ turn_at bytes at stage tally found
  unfolding turn_at
  turn_kind found {allows} is h = rw (sym is ∙ h)

  pub turn_found : {allows : Bool} → allows ≡ allowed_of stage (get_or bytes at 0) → allows ≡ true → {found told : Result Found Refused} → found ≡ told → {r : Turn}
      → r ≡ found_turn bytes at tally told → r ≡ turn_at bytes at stage tally found
  unfolding turn_at
  turn_found {allows} is h tells e = rw (sym is ∙ h, tells) e
