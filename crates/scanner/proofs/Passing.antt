-- Test 12 for running memory, one part after the other: where a part fails the whole test does, and where all hold it says what the
-- statement beside it says.
-- Assumes nothing.
use mathlib.Core.Path.{◌≡◌, refl, sym, ◌∙◌}
use mathlib.Core.Logic.{inl, inr, ⊎_elim, ◌↔◌}
use mathlib.Core.Bool.{Bool, true, false, So, ◌||◌, and-eq-true_iff, false≢true}
use mathlib.Core.List.{List}
use Prim.Native.Nat.{ℕ, ◌≤◌, ◌<◌}
use native.Mathlib.Omega.{arith}
use lib.Dec.{ltb, eqb}
use lib.ListN.{length}
use borrow.Author.Tests.{lt-ltb, le-ltb, le-leb, lt-leb, eq-eqb, ne_eqb, ltb-true, ltb-false, leb-true, eqb-true, not-true}
use Rattle.meaning.specs.Calls.{largest_place}
use Rattle.lent.specs.Zeros.{Zero}
use Rattle.lent.proofs.Cases.{lt_or_le}
use Rattle.meaning.proofs.Truth.{untrue}
use Rattle.tables.specs.Layout.{tables_size}
use Rattle.tables.specs.Reads.{Whole, state_count_in, mark_in}
use Rattle.tables.proofs.Parts.{number_zero}
use Rattle.running.specs.Layout.{running_size, tag_at, running_tag}
use Rattle.running.specs.Reads.{WholeRunning}
use Rattle.scanner.specs.Passing.{tag_held, state_held, place_held, mark_held, tag_asked, too_small, RunningPass, running_pass}
use Rattle.scanner.specs.Promised.{Small}

-- ── Sizes ──

module _ (t m : List ℕ) where
  pub small_tables : length t < tables_size → too_small t m ≡ true
  unfolding too_small
  small_tables h = rw (lt-ltb (length t) tables_size h)

  pub small_memory : tables_size ≤ length t → too_small t m ≡ ltb (length m) running_size
  unfolding too_small
  small_memory h = rw (le-ltb (length t) tables_size h)

  pub small : Small t m → too_small t m ≡ true
  small (inl h) = small_tables h
  small (inr h) = ⊎_elim (λ l. small_tables l) (λ l. small_memory l ∙ lt-ltb (length m) running_size h) (lt_or_le (length t) tables_size)

  pub large : tables_size ≤ length t → running_size ≤ length m → too_small t m ≡ false
  large a b = small_memory a ∙ le-ltb (length m) running_size b

  pub sizes : too_small t m ≡ false → (tables_size ≤ length t) × (running_size ≤ length m)
  unfolding too_small
  sizes e = go (ltb (length t) tables_size) refl (ltb (length m) running_size) refl e
    where
      go : (v : Bool) → ltb (length t) tables_size ≡ v → (w : Bool) → ltb (length m) running_size ≡ w → v || w ≡ false
          → (tables_size ≤ length t) × (running_size ≤ length m)
      go true p w q r = absurd (false≢true (sym r))
      go false p true q r = absurd (false≢true (sym r))
      go false p false q r = (ltb-false (length t) tables_size p, ltb-false (length m) running_size q)

  -- The same with the numbers, so that arithmetic sees them.
  pub whole : too_small t m ≡ false → Whole t × WholeRunning m
  unfolding tables_size running_size
  whole e = sizes e

  -- ── One part after the other ──

  pub pass_small : too_small t m ≡ true → running_pass t m ≡ false
  unfolding running_pass
  pass_small e = rw e

  module _ (large_enough : too_small t m ≡ false) where
    pub pass_tag : (tag_held m ≡ tag_asked → ⊥) → running_pass t m ≡ false
    unfolding running_pass
    pass_tag h = rw (large_enough, ne_eqb (tag_held m) tag_asked h)

    module _ (tag : tag_held m ≡ tag_asked) where
      pub pass_state : state_count_in t ≤ state_held m → running_pass t m ≡ false
      unfolding running_pass
      pass_state h = rw (large_enough, eq-eqb (tag_held m) tag_asked tag, le-ltb (state_held m) (state_count_in t) h)

      module _ (state : state_held m < state_count_in t) where
        pub pass_place : largest_place < place_held m → running_pass t m ≡ false
        unfolding running_pass
        pass_place h = rw (large_enough, eq-eqb (tag_held m) tag_asked tag, lt-ltb (state_held m) (state_count_in t) state, lt-leb (place_held m) largest_place h)

        pub pass_mark : place_held m ≤ largest_place → running_pass t m ≡ eqb (mark_held m) (mark_in t)
        unfolding running_pass
        pass_mark h = rw (large_enough, eq-eqb (tag_held m) tag_asked tag, lt-ltb (state_held m) (state_count_in t) state, le-leb (place_held m) largest_place h)

  -- ── What passes ──

  -- The test says what the statement beside it says.
  pub passes : RunningPass t m → So (running_pass t m)
  passes h =
      pass_mark (large h.tables h.memory) h.tag h.state h.place ∙ eq-eqb (mark_held m) (mark_in t) h.mark

  pub passed : So (running_pass t m) → RunningPass t m
  unfolding running_pass
  passed h =
      let a = (and-eq-true_iff _ _).0 h in
      let b = (and-eq-true_iff _ _).0 a.1 in
      let c = (and-eq-true_iff _ _).0 b.1 in
      let d = (and-eq-true_iff _ _).0 c.1 in
      let s = sizes (not-true (too_small t m) a.0) in
      record {
        tables = s.0;
        memory = s.1;
        tag = eqb-true (tag_held m) tag_asked b.0;
        state = ltb-true (state_held m) (state_count_in t) c.0;
        place = leb-true (place_held m) largest_place d.0;
        mark = eqb-true (mark_held m) (mark_in t) d.1;
      }

  pub pass_iff : So (running_pass t m) ↔ RunningPass t m
  pass_iff = (passed, passes)

  -- Running memory that is zero up to its published size does not pass, with any tables.
  pub zero_fails : Zero 0 running_size m → running_pass t m ≡ false
  unfolding running_size running_tag
  zero_fails zeros = untrue (running_pass t m) (λ h. omega (arith, (passed h).tag, number_zero 8 m tag_at (λ k a b. zeros k (omega arith) (omega arith))))
