-- What the next bytes of a letter are lies in the buffer, and after a turn they lie where they lay: by cases of whether the listing goes on,
-- and of what was read. Assumes nothing.
use Rattle.std.proofs.Common.{◌≡◌, ℕ, ◌<◌, ◌≤◌, Bool, true, false, eqb, ltb, List, length, Result, Ok, Err, Option, Some, None, refl, subst, ⊎_elim, arith, ltb-true, eqb-true}
use borrow.Author.Tests.{eqb-false}
use Rattle.lines.specs.declared.answers.BookRefused.{BookRefused}
use Rattle.pipes.specs.declared.NotListed.{NotListed}
use Rattle.pipes.specs.declared.reading.NotRead.{NotRead}
use Rattle.pipes.specs.declared.letter.Totals.{Totals}
use Rattle.pipes.specs.declared.letter.Standing.{Standing}
use Rattle.pipes.specs.Reading.{Fits}
use Rattle.pipes.specs.Letter.{Started, PartInside, LastPart, FullPart, PartRead, NextPart, NextBytes, Next, TurnWithin}

pub started_inside : (opened : Result ℕ BookRefused) (more : Bool) (first : Result (Option Standing) NotListed) → Started opened more first → PartInside first 0
started_inside (Ok end) more first = ⊎_elim (λ e. rw e (omega arith)) (λ e. rw e tt)
started_inside (Err refused) more first = ⊎_elim (λ e. rw e tt) (λ e. rw e tt)

-- A listing that goes on has bytes to offer, which lie in the buffer.
abbrev pub Offers : Result (Option Standing) NotListed → ℕ → Type 0
Offers (Ok (Some standing)) room = (standing.used < standing.size) × (standing.size ≤ room)
Offers (Ok None) room = Unit {0}
Offers (Err told) room = Unit {0}

module _ (room : ℕ) (totals : Totals) (next : Result (Option Standing) NotListed) (some : 0 < room) where
  last_offers : (none : Bool) (count : ℕ) → eqb count 0 ≡ none → count ≤ room → LastPart none count totals next → Offers next room
  last_offers true count e fits is = ⊎_elim (λ e. rw e tt) (λ e. rw e tt) is
  last_offers false count e fits is = rw is (omega (arith, eqb-false count 0 e), omega arith)

  full_offers : (full : Bool) (count : ℕ) → eqb count room ≡ full → count ≤ room → FullPart full count totals next → Offers next room
  full_offers true count e fits is = rw is (omega (arith, eqb-true count room e), fits)
  full_offers false count e fits is = last_offers (eqb count 0) count refl fits is

  part_offers : (came : Result ℕ NotRead) → Fits came room → PartRead room totals came next → Offers next room
  part_offers (Ok count) fits is = full_offers (eqb count room) count refl fits is
  part_offers (Err failed) fits is = rw is tt

module _ (standing : Standing) (part : List ℕ) (next : Result (Option Standing) NotListed) (after : List ℕ) (some : 0 < length part) (inside : standing.size ≤ length part) where
  follows_offers : (more : Bool) → NextPart more standing.totals part next after → Offers next (length part)
  follows_offers true read = part_offers (length part) standing.totals next some read.0 read.1.0 read.1.1
  follows_offers false ended = ⊎_elim (λ e. rw e tt) (λ e. rw e tt) ended.0

  bytes_offers : (left : Bool) → ltb standing.used standing.size ≡ left → NextBytes left standing part next after → Offers next (length part)
  bytes_offers true left is = rw is.0 (ltb-true _ _ left, inside)
  bytes_offers false left is = follows_offers standing.more is

pub next_offers : (turn : Result (Option Standing) NotListed) (part : List ℕ) (next : Result (Option Standing) NotListed) (after : List ℕ) (room : ℕ) → length part ≡ room → 0 < room → PartInside turn room → Next turn part next after → Offers next room
next_offers (Ok (Some standing)) part next after room long some inside is =
    subst (Offers next) long (bytes_offers standing part next after (omega arith) (omega arith) (ltb standing.used standing.size) refl is)
next_offers (Ok None) part next after room long some inside is = rw is.0 tt
next_offers (Err told) part next after room long some inside is = rw is.0 tt

module _ (offered : Result (Option Standing) NotListed) (before : Standing) (room : ℕ) (is : offered ≡ Ok (Some before)) (offers : Offers offered room) where
  here : Offers (Ok (Some before)) room
  here = subst (λ (turn : Result (Option Standing) NotListed). Offers turn room) is offers

  pub offered_inside : (long : ℕ) → long ≡ room → (before.used ≤ before.size) × (before.size ≤ long)
  offered_inside long same = (omega (arith, here.0), omega (arith, here.1))

  pub turn_inside : (after : Result (Option Standing) NotListed) → TurnWithin before after → PartInside after room
  turn_inside (Ok (Some standing)) within = omega (arith, here.1, within.2)
  turn_inside (Ok None) within = absurd within
  turn_inside (Err told) within = tt
