-- What a writer holds after some bytes were written to it, where that is known. Assumes nothing: these are definitions.
use Rattle.std.specs.Prelude.{◌≡◌, ℕ, List, ◌++◌, Option, Result, Ok, Err}
use Rattle.std.specs.Io.KnownBytes.{Appends}
use Rattle.pipes.specs.declared.NotListed.{NotListed}

-- The first of some bytes were written, and none of those behind them.
abbrev pub FrontWritten : Option (List ℕ) → Option (List ℕ) → List ℕ → Type 0
FrontWritten before after bytes = (front : List ℕ) × (behind : List ℕ) × (bytes ≡ front ++ behind) × Appends before after front

-- All bytes were written, or those before the write that failed.
abbrev pub Written : Option (List ℕ) → Option (List ℕ) → List ℕ → Result (Unit {0}) NotListed → Type 0
Written before after bytes (Ok done) = Appends before after bytes
Written before after bytes (Err told) = FrontWritten before after bytes
