-- How a listing can end is known from turn to turn: what its first turn was decides. By cases of whether the listing goes on. Assumes nothing.
use Rattle.std.proofs.Common.{◌≡◌, ℕ, Bool, true, false, eqb, ltb, List, length, Result, Ok, Err, Option, Some, None, refl, subst, inl, inr, ⊎_elim}
use Rattle.pipes.specs.declared.NotListed.{NotListed}
use Rattle.pipes.specs.declared.reading.NotRead.{NotRead}
use Rattle.pipes.specs.declared.letter.Totals.{Totals}
use Rattle.pipes.specs.declared.letter.Standing.{Standing}
use Rattle.pipes.specs.Letter.{OrNotWritten, LastPart, FullPart, PartRead, NextPart, NextBytes, Next, TurnWithin}
use Rattle.stream.specs.Ends.{LetterEnd}

-- After so many turns: a listing that was over at first has had none, and any other is over only by an end of its letter.
abbrev pub Reached : Result (Option Standing) NotListed → ℕ → Result (Option Standing) NotListed → Type 0
Reached (Ok (Some standing)) turns (Ok (Some now)) = Unit {0}
Reached (Ok (Some standing)) turns (Ok None) = LetterEnd (Ok tt)
Reached (Ok (Some standing)) turns (Err told) = LetterEnd (Err told)
Reached (Ok None) turns now = (turns ≡ 0) × (now ≡ Ok None)
Reached (Err ended) turns now = (turns ≡ 0) × (now ≡ Err ended)

module _ (standing : Standing) (turns : ℕ) where
  ended_reached : (next : Result (Option Standing) NotListed) → OrNotWritten (Ok None) next → Reached (Ok (Some standing)) turns next
  ended_reached next = ⊎_elim (λ e. rw e tt) (λ e. rw e (inr (inr (inl refl))))

  last_reached : (none : Bool) (count : ℕ) (totals : Totals) (next : Result (Option Standing) NotListed) → LastPart none count totals next → Reached (Ok (Some standing)) turns next
  last_reached true count totals next is = ended_reached next is
  last_reached false count totals next is = rw is tt

  full_reached : (full : Bool) (count : ℕ) (totals : Totals) (next : Result (Option Standing) NotListed) → FullPart full count totals next → Reached (Ok (Some standing)) turns next
  full_reached true count totals next is = rw is tt
  full_reached false count totals next is = last_reached (eqb count 0) count totals next is

  part_reached : (room : ℕ) (totals : Totals) (came : Result ℕ NotRead) (next : Result (Option Standing) NotListed) → PartRead room totals came next → Reached (Ok (Some standing)) turns next
  part_reached room totals (Ok count) next is = full_reached (eqb count room) count totals next is
  part_reached room totals (Err failed) next is = rw is (inl refl)

  follows_reached : (more : Bool) (totals : Totals) (part : List ℕ) (next : Result (Option Standing) NotListed) (after : List ℕ) → NextPart more totals part next after → Reached (Ok (Some standing)) turns next
  follows_reached true totals part next after is = part_reached (length part) totals is.0 next is.1.1
  follows_reached false totals part next after is = ended_reached next is.0

  bytes_reached : (left : Bool) (now : Standing) (part : List ℕ) (next : Result (Option Standing) NotListed) (after : List ℕ) → NextBytes left now part next after → Reached (Ok (Some standing)) turns next
  bytes_reached true now part next after is = rw is.0 tt
  bytes_reached false now part next after is = follows_reached now.more now.totals part next after is

pub next_reached : (first : Result (Option Standing) NotListed) (turns : ℕ) (now : Result (Option Standing) NotListed) (part : List ℕ) (next : Result (Option Standing) NotListed) (after : List ℕ) → Reached first turns now → Next now part next after → Reached first turns next
next_reached (Ok (Some standing)) turns (Ok (Some now)) part next after reached is = bytes_reached standing turns (ltb now.used now.size) now part next after is
next_reached (Ok (Some standing)) turns (Ok None) part next after reached is = rw is.0 reached
next_reached (Ok (Some standing)) turns (Err told) part next after reached is = rw is.0 reached
next_reached (Ok None) turns now part next after reached is =
    (reached.0, (subst (λ (turn : Result (Option Standing) NotListed). Next turn part next after) reached.1 is).0)
next_reached (Err ended) turns now part next after reached is =
    (reached.0, (subst (λ (turn : Result (Option Standing) NotListed). Next turn part next after) reached.1 is).0)

pub call_reached : (first : Result (Option Standing) NotListed) (turns : ℕ) (offered : Result (Option Standing) NotListed) (before : Standing) (later : ℕ) (after : Result (Option Standing) NotListed) → Reached first turns offered → offered ≡ Ok (Some before) → TurnWithin before after → Reached first later after
call_reached (Ok (Some standing)) turns offered before later (Ok (Some now)) reached is within = tt
call_reached (Ok (Some standing)) turns offered before later (Ok None) reached is within = absurd within
call_reached (Ok (Some standing)) turns offered before later (Err told) reached is within = inr within
call_reached (Ok None) turns offered before later after reached is within = absurd (cc (reached.1, is))
call_reached (Err ended) turns offered before later after reached is within = absurd (cc (reached.1, is))
