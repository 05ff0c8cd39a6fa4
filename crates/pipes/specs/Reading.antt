-- How many bytes a joined read can say it brought. Assumes nothing: these are definitions.
use Rattle.std.specs.Prelude.{ℕ, ◌≤◌, IfOk, Result}
use Rattle.pipes.specs.declared.reading.NotRead.{NotRead}

-- The bytes told of lie inside the buffer. Where they are fewer than it holds the input ended, so that an end that is told is never a full
-- buffer.
abbrev pub Fits : Result ℕ NotRead → ℕ → Type 0
Fits came size = IfOk came (λ count. count ≤ size)

-- What a read to a buffer of so many bytes brought only the reader knows; but it fits, and the answer is the one for it.
abbrev pub ReadTo : ℕ → (Result ℕ NotRead → Type 0) → Type 0
ReadTo size Answered = (came : Result ℕ NotRead) × (Fits came size × Answered came)
