-- What the letter's turns answer, except for what only the reader and the writer know: whether a write was taken, a read failed, and how many bytes it brought.
-- Assumes nothing: these are definitions.
use Rattle.std.specs.Prelude.{◌≡◌, ℕ, ◌+◌, ◌%◌, ◌^◌, ◌<◌, ◌≤◌, Bool, true, false, cond, ◌⊎◌, List, length, ◌==◌, nat_lt, Result, Ok, Err, Option, Some, None}
use Rattle.pipes.specs.declared.reading.NotRead.{NotRead}
use Rattle.lines.specs.declared.answers.BookRefused.{BookRefused}
use Rattle.lines.specs.declared.answers.Listed.{Listed}
use Rattle.lines.specs.declared.answers.PartRefused.{PartRefused}
use Rattle.lines.specs.declared.answers.PartRefused.TheVariants as part
use Rattle.pipes.specs.declared.NotListed.{NotListed}
use Rattle.pipes.specs.declared.NotListed.TheVariants as why
use Rattle.pipes.specs.declared.letter.Totals.{Totals}
use Rattle.pipes.specs.declared.letter.Standing.{Standing}
use Rattle.pipes.specs.Reading.{ReadTo}

-- Once lines are written the answer is given; where a write fails, the listing is over with that.
abbrev pub OrNotWritten : {T : Type 0} → Result T NotListed → Result T NotListed → Type 0
OrNotWritten answer given = (given ≡ answer) ⊎ (given ≡ Err why.NotWritten)

-- A part of so many bytes, of which none is used.
abbrev pub unused : ℕ → Bool → Totals → Standing
unused size more totals = record { size = size; used = 0; more = more; totals = totals }

-- A letter of which nothing was read.
abbrev pub unread : Bool → Standing
unread more = unused 0 more record { taken = 0; hits = 0; steps = 0 }

-- The letter begins where the book is ready, and a refused book ends the listing.
abbrev pub Started : Result ℕ BookRefused → Bool → Result (Option Standing) NotListed → Type 0
Started (Ok end) more first = OrNotWritten (Ok (Some (unread more))) first
Started (Err refused) more first = OrNotWritten (Err why.BookRefused) first

-- The part lies in the buffer.
abbrev pub PartInside : Result (Option Standing) NotListed → ℕ → Type 0
PartInside (Ok (Some standing)) room = standing.size ≤ room
PartInside (Ok None) room = Unit {0}
PartInside (Err told) room = Unit {0}

-- Where the input ended: the letter does with no byte; some bytes are its last part.
abbrev pub LastPart : Bool → ℕ → Totals → Result (Option Standing) NotListed → Type 0
LastPart true count totals next = OrNotWritten (Ok None) next
LastPart false count totals next = next ≡ Ok (Some (unused count false totals))

-- Input may follow a part that fills the buffer, and no other.
abbrev pub FullPart : Bool → ℕ → Totals → Result (Option Standing) NotListed → Type 0
FullPart true count totals next = next ≡ Ok (Some (unused count true totals))
FullPart false count totals next = LastPart (count == 0) count totals next

abbrev pub PartOf : ℕ → Totals → ℕ → Result (Option Standing) NotListed → Type 0
PartOf room totals count next = FullPart (count == room) count totals next

-- A failed read is not the end of the letter.
abbrev pub PartRead : ℕ → Totals → Result ℕ NotRead → Result (Option Standing) NotListed → Type 0
PartRead room totals (Ok count) next = PartOf room totals count next
PartRead room totals (Err failed) next = next ≡ Err why.LetterNotRead

-- Where all bytes of a part are used, the next part is read if input may follow; otherwise the letter ends.
abbrev pub NextPart : Bool → Totals → List ℕ → Result (Option Standing) NotListed → List ℕ → Type 0
NextPart true totals part next after = ReadTo (length part) (λ came. PartRead (length part) totals came next)
NextPart false totals part next after = OrNotWritten (Ok None) next × (after ≡ part)

-- While some bytes of a part are left, they are the next ones, and the buffer is as it was: a part is used up before the next is read.
abbrev pub NextBytes : Bool → Standing → List ℕ → Result (Option Standing) NotListed → List ℕ → Type 0
NextBytes true standing part next after = (next ≡ Ok (Some standing)) × (after ≡ part)
NextBytes false standing part next after = NextPart standing.more standing.totals part next after

-- A listing that is over stays so.
abbrev pub Next : Result (Option Standing) NotListed → List ℕ → Result (Option Standing) NotListed → List ℕ → Type 0
Next (Ok (Some standing)) part next after = NextBytes (nat_lt standing.used standing.size) standing part next after
Next (Ok None) part next after = (next ≡ Ok None) × (after ≡ part)
Next (Err told) part next after = (next ≡ Err told) × (after ≡ part)

-- After a call: its bytes are used, and its counts are added in 64 bits; a call that takes nothing ends the listing.
abbrev pub after_bytes : Standing → ℕ → ℕ → ℕ → Result (Option Standing) NotListed
after_bytes standing taken hits steps = cond (taken == 0) (Err why.NotTaken) (Ok (Some record {
  size = standing.size;
  used = standing.used + taken;
  more = standing.more;
  totals = record {
    taken = (standing.totals.taken + taken) % 2 ^ 64;
    hits = (standing.totals.hits + hits) % 2 ^ 64;
    steps = (standing.totals.steps + steps) % 2 ^ 64;
  };
}))

-- The listing goes on after a call that took bytes, and a letter refused with 11 or a call that refused the tables ends it.
abbrev pub AfterCall : Result Listed PartRefused → Standing → Result (Option Standing) NotListed → Type 0
AfterCall (Ok listed) standing next = OrNotWritten (after_bytes standing listed.taken listed.hits listed.steps) next
AfterCall (Err part.TooLong) standing next = OrNotWritten (Err why.LetterRefused) next
AfterCall (Err part.NotTaken) standing next = next ≡ Err why.NotTaken

-- A call ends the listing where the letter or the tables are refused, or a write failed; so the letter is not listed to its end.
abbrev pub CallEnd : NotListed → Type 0
CallEnd told = (told ≡ why.LetterRefused) ⊎ ((told ≡ why.NotWritten) ⊎ (told ≡ why.NotTaken))

-- A call after which the listing goes on uses some of the bytes that are left, and no more than these; no call is the letter's end.
abbrev pub TurnWithin : Standing → Result (Option Standing) NotListed → Type 0
TurnWithin before (Ok (Some standing)) = (before.used < standing.used) × (standing.used ≤ standing.size) × (standing.size ≡ before.size)
TurnWithin before (Ok None) = ⊥
TurnWithin before (Err told) = CallEnd told
