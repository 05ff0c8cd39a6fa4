-- The taking rule, for any tables and any running memory. Assumes nothing: these are definitions.
use Rattle.std.specs.Prelude.{◌≡◌, ◌⊎◌, List, [], ◌∷◌, ℕ, ◌+◌, ◌≤◌, ◌<◌, length, take}
use Rattle.tables.specs.Reads.{phrase_count_in}
use Rattle.feeding.specs.Taken.{Run, byte_taken, free_after}

-- All of some bytes, one after the other.
unfoldable pub all_taken : List ℕ → List ℕ → Run → Run
unfolding byte_taken
all_taken t [] run = run
all_taken t (byte ∷ rest) run = all_taken t rest (byte_taken t run byte)

-- So many bytes of a part have been taken, and no other: each of them found room for a report of every phrase, and the taking
-- stopped because no byte remains or the free room is below the number of phrases.
pub record TookBytes (t : List ℕ) (room : ℕ) (part : List ℕ) (before after : Run) (count : ℕ) : Type 0 where
  pub offered : count ≤ length part
  pub taken : after.taken ≡ before.taken + count
  pub these : after ≡ all_taken t (take count part) before
  pub enough : (k : ℕ) → k < count → phrase_count_in t ≤ free_after room (all_taken t (take k part) before)
  pub stops : (count ≡ length part) ⊎ (free_after room after < phrase_count_in t)
