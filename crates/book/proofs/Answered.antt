-- Each of judge's answers says one thing of the bytes, because its number tells the judgement apart. Assumes nothing.
use mathlib.Core.Path.{◌≡◌, ap, ◌∙◌}
use mathlib.Core.List.{List}
use Prim.Native.Nat.{ℕ}
use native.Mathlib.Omega.{arith}
use lib.ListN.{length}
use Rattle.meaning.specs.Books.{Book}
use Rattle.format.specs.Judged.{Judgement, accepted, refused, Answer, answer_of, RefusedFor, AcceptedAs, Judges}
use Rattle.format.proofs.Answers.{number_range, number_once}
use Rattle.records.specs.declared.refusals.Refusal.{Refusal}
use Rattle.records.specs.Refusals.{reason_of}
use Rattle.std.proofs.Common.{Ok, Err}
use Rattle.book.specs.Answers.{said_by, Meant}

-- Accepted: the bytes are the written form of a book within the limits, of that length and with so many phrases.
pub accepted_means : (bytes : List ℕ) (long phrases : ℕ) → Meant bytes (Ok (record { length = long; phrases = phrases }))
    → (book : Book) × AcceptedAs bytes book × (long ≡ length bytes) × (phrases ≡ length book.phrases)
unfolding said_by answer_of Judges
accepted_means bytes long phrases m = go m.judgement m.true_of m.said
  where
    go : (j : Judgement) → Judges bytes j → said_by (Ok (record { length = long; phrases = phrases })) ≡ answer_of j
        → (book : Book) × AcceptedAs bytes book × (long ≡ length bytes) × (phrases ≡ length book.phrases)
    go (accepted book offset) true_of said = (book, true_of.0, ap (λ (r : Answer). r.offset) said ∙ true_of.1, ap (λ (r : Answer). r.phrases) said)
    go (refused why offset) true_of said = absurd (omega (arith, ap (λ (r : Answer). r.number) said, number_range why))

-- Refused: the bytes are refused for that reason, at that offset.
pub refused_means : (bytes : List ℕ) (why : Refusal) (at : ℕ) → Meant bytes (Err (record { why = why; at = at })) → RefusedFor bytes (reason_of why) at
unfolding said_by answer_of Judges
refused_means bytes why at m = go m.judgement m.true_of m.said
  where
    go : (j : Judgement) → Judges bytes j → said_by (Err (record { why = why; at = at })) ≡ answer_of j → RefusedFor bytes (reason_of why) at
    go (accepted book offset) true_of said = absurd (omega (arith, ap (λ (r : Answer). r.number) said, number_range (reason_of why)))
    go (refused other offset) true_of said =
        rw (number_once (reason_of why) other (ap (λ (r : Answer). r.number) said), ap (λ (r : Answer). r.offset) said) true_of
