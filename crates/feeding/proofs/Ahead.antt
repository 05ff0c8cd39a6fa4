-- What is taken in blocks leaves what was left before, and as many blocks as the part has bytes are all of them: each takes a byte, or behind it none has one.
-- Assumes nothing.
use mathlib.Core.Path.{◌≡◌, refl, ap, ◌∙◌}
use mathlib.Core.Logic.{◌⊎◌, inl, inr, ⊎_elim}
use mathlib.Core.Bool.{Bool, true, false, cond}
use mathlib.Core.List.{List}
use Prim.Native.Nat.{ℕ, zero, suc, ◌+◌, ◌-◌, ◌*◌, ◌/◌, ◌≤◌, ◌<◌}
use native.Mathlib.Omega.{arith}
use lib.Dec.{ltb}
use lib.ListN.{length, take}
use borrow.Author.Tests.{ltb-true, ltb-false, lt-ltb, le-ltb}
use Rattle.tables.specs.Reads.{phrase_count_in}
use Rattle.ahead.specs.Columns.{columns_fit}
use Rattle.feeding.specs.Taken.{Run, free_after, to_come}
use Rattle.feeding.specs.Blocks.{longest, shortest, spare, quarter_of, quarter_next, block_taken, blocks_taken, all_blocks, ahead_taken}
use Rattle.feeding.specs.Ready.{QuarterFits}
use Rattle.feeding.proofs.Upto.{upto_none, upto_on, upto_stops, upto_within}

-- ── The length of a quarter ──

none_fits : (remaining : ℕ) → QuarterFits remaining 0
none_fits remaining = record { within = omega arith; short = omega arith; long = λ some. absurd (omega arith) }

-- A block with such quarters can be taken.
pub quarter_fits : (remaining free phrases : ℕ) → QuarterFits remaining (quarter_of remaining free phrases)
unfolding quarter_of
quarter_fits remaining free phrases = go (ltb remaining shortest) refl (ltb free (phrases + spare)) (ltb (4 * longest) remaining) refl
  where
    go : (few : Bool) → ltb remaining shortest ≡ few → (full : Bool) → (many : Bool) → ltb (4 * longest) remaining ≡ many
        → QuarterFits remaining (cond few 0 (cond full 0 (cond many longest (remaining / 4))))
    go true e full many f = none_fits remaining
    go false e true many f = none_fits remaining
    go false e false true f =
        let more : 4 * longest < remaining = ltb-true (4 * longest) remaining f in
        record { within = omega arith; short = omega arith; long = λ some. omega arith }
    go false e false false f =
        let most : remaining ≤ 4 * longest = ltb-false (4 * longest) remaining f in
        let least : shortest ≤ remaining = ltb-false remaining shortest e in
        record { within = omega arith; short = omega arith; long = λ some. omega arith }

-- What it is in each case: too few bytes, too little room, more bytes than the longest block has, and else.
module _ (remaining free phrases : ℕ) where
  pub quarter_few : remaining < shortest → quarter_of remaining free phrases ≡ 0
  unfolding quarter_of
  quarter_few few = rw (lt-ltb remaining shortest few)

  pub quarter_tight : free < phrases + spare → quarter_of remaining free phrases ≡ 0
  unfolding quarter_of
  quarter_tight tight = rw (lt-ltb free (phrases + spare) tight) (same (ltb remaining shortest))
    where
      same : (few : Bool) → ◌≡◌ {A = ℕ} (cond few 0 0) 0
      same true = refl
      same false = refl

  pub quarter_longest : shortest ≤ remaining → phrases + spare ≤ free → 4 * longest < remaining → quarter_of remaining free phrases ≡ longest
  unfolding quarter_of
  quarter_longest enough roomy long = rw (le-ltb remaining shortest enough, le-ltb free (phrases + spare) roomy, lt-ltb (4 * longest) remaining long)

  pub quarter_fourth : shortest ≤ remaining → phrases + spare ≤ free → remaining ≤ 4 * longest → quarter_of remaining free phrases ≡ remaining / 4
  unfolding quarter_of
  quarter_fourth enough roomy short = rw (le-ltb remaining shortest enough, le-ltb free (phrases + spare) roomy, le-ltb (4 * longest) remaining short)

-- ── Blocks one after the other ──

module _ (t : List ℕ) (room : ℕ) (part : List ℕ) where
  -- A block without a byte.
  block_none : (run : Run) → run.taken ≤ length part → quarter_next t room part run ≡ 0 → block_taken t room part run ≡ run
  unfolding block_taken
  block_none run within none =
      let end : run.taken + 4 * quarter_next t room part run ≡ run.taken = omega (arith, none) in
      ap (λ (k : ℕ). to_come t room (take k part) run) end ∙ upto_none t room part run within

  -- Behind it there is none that has one.
  pub blocks_none : (count : ℕ) (run : Run) → run.taken ≤ length part → quarter_next t room part run ≡ 0 → blocks_taken t room part count run ≡ run
  unfolding blocks_taken
  blocks_none zero run within none = refl
  blocks_none (suc count) run within none = ap (blocks_taken t room part count) (block_none run within none) ∙ blocks_none count run within none

  pub blocks_full : (count : ℕ) (run : Run) → run.taken ≤ length part → free_after room run < phrase_count_in t → blocks_taken t room part count run ≡ run
  blocks_full count run within full = blocks_none count run within (quarter_tight (length part - run.taken) (free_after room run) (phrase_count_in t) (omega arith))

  module _ (run : Run) (within : run.taken ≤ length part) where
    abbrev quarter : ℕ
    quarter = quarter_next t room part run

    abbrev end : ℕ
    end = run.taken + 4 * quarter

    abbrev next : Run
    next = block_taken t room part run

    block_end_lem : end ≤ length part
    block_end_lem = omega (arith, (quarter_fits (length part - run.taken) (free_after room run) (phrase_count_in t)).within)

    is_upto : next ≡ to_come t room (take end part) run
    unfolding block_taken
    is_upto = refl

    block_within : next.taken ≤ length part
    block_within = omega (arith, upto_within t room part end run next block_end_lem (omega arith) is_upto, block_end_lem)

    block_pass : to_come t room part next ≡ to_come t room part run
    block_pass = upto_on t room part end run next block_end_lem (omega arith) is_upto

    -- It takes a byte, or no block behind it does.
    block_goes : (run.taken < next.taken) ⊎ (block_taken t room part next ≡ next)
    block_goes = go quarter refl
      where
        go : (q : ℕ) → quarter ≡ q → (run.taken < next.taken) ⊎ (block_taken t room part next ≡ next)
        go zero none = inr (ap (block_taken t room part) (block_none run within none))
        go (suc q) some =
            ⊎_elim
            (λ (whole : next.taken ≡ end). inl (omega (arith, some)))
            (λ (full : free_after room next < phrase_count_in t). inr (block_none next block_within (quarter_tight (length part - next.taken) (free_after room next) (phrase_count_in t) (omega arith))))
            (upto_stops t room part end run next block_end_lem (omega arith) is_upto)

  -- What is left is what was left before.
  pub blocks_pass : (count : ℕ) (run : Run) → run.taken ≤ length part → to_come t room part (blocks_taken t room part count run) ≡ to_come t room part run
  unfolding blocks_taken
  blocks_pass zero run within = refl
  blocks_pass (suc count) run within = blocks_pass count (next run within) (block_within run within) ∙ block_pass run within

  -- One block more than there are bytes changes nothing.
  pub blocks_enough : (count : ℕ) (run : Run) → run.taken ≤ length part → length part ≤ run.taken + count
      → blocks_taken t room part count (block_taken t room part run) ≡ blocks_taken t room part count run
  unfolding blocks_taken
  blocks_enough zero run within enough = block_none run within (quarter_few (length part - run.taken) (free_after room run) (phrase_count_in t) (omega arith))
  blocks_enough (suc count) run within enough = go (blocks_enough count (next run within) (block_within run within)) (block_goes run within)
    where
      then : Run
      then = block_taken t room part run

      go : (length part ≤ then.taken + count → blocks_taken t room part count (block_taken t room part then) ≡ blocks_taken t room part count then)
          → (run.taken < then.taken) ⊎ (block_taken t room part then ≡ then)
          → blocks_taken t room part count (block_taken t room part then) ≡ blocks_taken t room part count then
      go rec goes =
          ⊎_elim (λ (more : run.taken < then.taken). rec (omega arith)) (λ (same : block_taken t room part then ≡ then). ap (blocks_taken t room part count) same) goes

  pub blocks_all : (run : Run) → run.taken ≤ length part → all_blocks t room part (block_taken t room part run) ≡ all_blocks t room part run
  blocks_all run within = blocks_enough (length part) run within (omega arith)

  -- ── As much of a part as is taken in blocks ──

  pub ahead_pass : (run : Run) → run.taken ≤ length part → to_come t room part (ahead_taken t room part run) ≡ to_come t room part run
  unfolding ahead_taken
  ahead_pass run within = go (ltb (length part) shortest) (columns_fit t)
    where
      go : (few fit : Bool) → to_come t room part (cond few run (cond fit (all_blocks t room part run) run)) ≡ to_come t room part run
      go true fit = refl
      go false true = blocks_pass (length part) run within
      go false false = refl

  -- What it is in each case: a short part, columns that do not fit, and else.
  pub ahead_short : (run : Run) → length part < shortest → ahead_taken t room part run ≡ run
  unfolding ahead_taken
  ahead_short run short = rw (lt-ltb (length part) shortest short)

  pub ahead_unfit : (run : Run) → shortest ≤ length part → columns_fit t ≡ false → ahead_taken t room part run ≡ run
  unfolding ahead_taken
  ahead_unfit run long unfit = rw (le-ltb (length part) shortest long, unfit)

  pub ahead_blocks : (run : Run) → shortest ≤ length part → columns_fit t ≡ true → ahead_taken t room part run ≡ all_blocks t room part run
  unfolding ahead_taken
  ahead_blocks run long fit = rw (le-ltb (length part) shortest long, fit)
