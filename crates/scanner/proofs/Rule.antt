-- A feed is refused and changes nothing, or it takes bytes: of all its cases only the last one says 0, and that one follows the taking rule.
-- Assumes nothing.
use mathlib.Core.Path.{◌≡◌, refl}
use mathlib.Core.Logic.{◌⊎◌, inl, inr, ⊎_elim}
use mathlib.Core.Bool.{Bool, true, false}
use mathlib.Core.List.{List}
use Prim.Native.Nat.{ℕ, ◌-◌, ◌/◌, ◌≤◌, ◌<◌}
use native.Mathlib.Omega.{arith}
use lib.ListN.{length}
use Rattle.meaning.specs.Calls.{largest_place}
use Rattle.lent.proofs.Cases.{lt_or_le}
use Rattle.tables.specs.Reads.{phrase_count_in}
use Rattle.tables.specs.Passing.{tables_pass}
use Rattle.feeding.specs.Taken.{Run, at_start, part_taken}
use Rattle.feeding.proofs.Rule.{rule_kept}
use Rattle.scanner.specs.Answers.{memory_number, feed_number, said}
use Rattle.scanner.specs.Passing.{state_held, place_held, too_small, running_pass}
use Rattle.scanner.specs.Exact.{FeedEnd, feed_refused, took_from, feed_of, Taking}
use Rattle.scanner.specs.Promised.{FollowsRule}
use Rattle.scanner.specs.declared.refusals.FeedError.{FeedError}
use Rattle.scanner.specs.declared.refusals.MemoryError.TheVariants.{TooSmall, NotPassed}
use Rattle.scanner.specs.declared.refusals.FeedError.TheVariants.{Memory, NoRoom, TooLong}
use Rattle.scanner.proofs.Cases.{feed_small, feed_not_tables, feed_not_running, feed_no_room, feed_too_long, feed_taking}

-- A call that is refused changes nothing. Any other takes bytes from the state and the place in the memory.
pub record Refused (m room : List ℕ) (end : FeedEnd) : Type 0 where
  pub number : (said end.answer).number ≡ 0 → ⊥
  pub memory_kept : end.memory ≡ m
  pub room_kept : end.room ≡ room

module _ (t m part room : List ℕ) where
  abbrev Either : Type 0
  Either = Refused m room (feed_of t m part room) ⊎ Taking t m part room (feed_of t m part room)

  pub feed_cases : Either
  unfolding memory_number feed_number said
  feed_cases = at_size (too_small t m) refl
    where
      refused : (why : FeedError) → feed_of t m part room ≡ feed_refused why m room → (feed_number why ≡ 0 → ⊥) → Either
      refused why e some = inl (rw e (record { number = some; memory_kept = refl; room_kept = refl }))

      at_place : too_small t m ≡ false → tables_pass t ≡ true → running_pass t m ≡ true → phrase_count_in t ≤ length room / 2
          → (largest_place - place_held m < length part) ⊎ (length part ≤ largest_place - place_held m) → Either
      at_place a b c d (inl l) = refused TooLong (feed_too_long t m part room a b c d l) (λ z. omega arith)
      at_place a b c d (inr l) = inr (feed_taking t m part room a b c d l)

      at_room : too_small t m ≡ false → tables_pass t ≡ true → running_pass t m ≡ true → (length room / 2 < phrase_count_in t) ⊎ (phrase_count_in t ≤ length room / 2) → Either
      at_room a b c (inl l) = refused NoRoom (feed_no_room t m part room a b c l) (λ z. omega arith)
      at_room a b c (inr l) = at_place a b c l (lt_or_le (largest_place - place_held m) (length part))

      at_running : too_small t m ≡ false → tables_pass t ≡ true → (v : Bool) → running_pass t m ≡ v → Either
      at_running a b false c = refused (Memory NotPassed) (feed_not_running t m part room a b c) (λ z. omega arith)
      at_running a b true c = at_room a b c (lt_or_le (length room / 2) (phrase_count_in t))

      at_tables : too_small t m ≡ false → (v : Bool) → tables_pass t ≡ v → Either
      at_tables a false b = refused (Memory NotPassed) (feed_not_tables t m part room a b) (λ z. omega arith)
      at_tables a true b = at_running a b (running_pass t m) refl

      at_size : (v : Bool) → too_small t m ≡ v → Either
      at_size true a = refused (Memory TooSmall) (feed_small t m part room a) (λ z. omega arith)
      at_size false a = at_tables a (tables_pass t) refl

  abbrev start : Run
  start = at_start (state_held m) (place_held m) m room

  took_rule : FollowsRule t m part room (took_from t m part room (state_held m) (place_held m))
  unfolding said took_from
  took_rule =
      let run : Run = part_taken t (length room / 2) part start in
      let rule = rule_kept t (length room / 2) part start in
      let count : rule.0 ≡ run.taken = omega (arith, rule.1.taken) in
      record { run = run; takes = rw count at rule.1; reports = refl }

  pub rule_feed : (said (feed_of t m part room).answer).number ≡ 0 → FollowsRule t m part room (feed_of t m part room)
  rule_feed h = ⊎_elim (λ (r : Refused m room (feed_of t m part room)). absurd (r.number h)) (λ (k : Taking t m part room (feed_of t m part room)). rw k.is took_rule) feed_cases
