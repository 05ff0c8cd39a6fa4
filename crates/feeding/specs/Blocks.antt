-- Blocks of a part whose states are looked up ahead: how long each is, and what a run comes to with them. Assumes nothing: these are definitions.
use Rattle.std.specs.Prelude.{cond, List, ℕ, zero, suc, ◌+◌, ◌-◌, ◌*◌, ◌/◌, ltb, length, take}
use Rattle.tables.specs.Reads.{phrase_count_in}
use Rattle.ahead.specs.Columns.{columns_fit}
use Rattle.feeding.specs.Taken.{Run, free_after, to_come}

-- The bytes of the longest quarter.
abbrev pub longest : ℕ
longest = 1024

-- The bytes of the shortest block.
abbrev pub shortest : ℕ
shortest = 512

-- The reports for which there is room, beside one of every phrase, where a block begins.
abbrev pub spare : ℕ
spare = 512

-- The bytes of a quarter of the next block: a fourth of the bytes that remain, or the most. It is 0 where too few of them remain, or too little room.
unfoldable pub quarter_of : ℕ → ℕ → ℕ → ℕ
quarter_of remaining free phrases =
    cond (ltb remaining shortest) 0 (cond (ltb free (phrases + spare)) 0 (cond (ltb (4 * longest) remaining) longest (remaining / 4)))

-- The quarter of the next block of a run.
abbrev pub quarter_next : List ℕ → ℕ → List ℕ → Run → ℕ
quarter_next t room part run = quarter_of (length part - run.taken) (free_after room run) (phrase_count_in t)

-- What a run comes to with its next block: all bytes of the block are taken for which there is room.
unfoldable pub block_taken : List ℕ → ℕ → List ℕ → Run → Run
block_taken t room part run = to_come t room (take (run.taken + 4 * quarter_next t room part run) part) run

-- What it comes to with so many blocks, one after the other. Behind the last that fits, and behind one that was not taken whole for want of room, a block has no
-- byte.
unfoldable pub blocks_taken : List ℕ → ℕ → List ℕ → ℕ → Run → Run
blocks_taken t room part zero run = run
blocks_taken t room part (suc count) run = blocks_taken t room part count (block_taken t room part run)

-- What it comes to with all blocks of a part: there are no more of them than it has bytes.
abbrev pub all_blocks : List ℕ → ℕ → List ℕ → Run → Run
all_blocks t room part run = blocks_taken t room part (length part) run

-- What it comes to with as much of a part as is taken in blocks: nothing of a short part, and nothing with tables from elsewhere whose columns do not fit.
unfoldable pub ahead_taken : List ℕ → ℕ → List ℕ → Run → Run
ahead_taken t room part run = cond (ltb (length part) shortest) run (cond (columns_fit t) (all_blocks t room part run) run)
