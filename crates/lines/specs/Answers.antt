-- What each answer says. Assumes nothing: these are definitions.
use Rattle.std.specs.Prelude.{ℕ, Result, Ok, Err}
use Rattle.lines.specs.declared.answers.BookRefused.{BookRefused}
use Rattle.lines.specs.declared.answers.Listed.{Listed}
use Rattle.lines.specs.declared.answers.PartRefused.{PartRefused}

-- Where the line of the book ends.
unfoldable pub opened_end : Result ℕ BookRefused → ℕ
opened_end (Ok end) = end
opened_end (Err refused) = refused.end

-- How many bytes of the part were taken: none where it was refused.
unfoldable pub listed_taken : Result Listed PartRefused → ℕ
listed_taken (Ok listed) = listed.taken
listed_taken (Err why) = 0

-- How many reports they have, and how many failure steps.
unfoldable pub listed_hits : Result Listed PartRefused → ℕ
listed_hits (Ok listed) = listed.hits
listed_hits (Err why) = 0

unfoldable pub listed_steps : Result Listed PartRefused → ℕ
listed_steps (Ok listed) = listed.steps
listed_steps (Err why) = 0

-- Where the hit lines end.
unfoldable pub listed_end : Result Listed PartRefused → ℕ
listed_end (Ok listed) = listed.end
listed_end (Err why) = 0
