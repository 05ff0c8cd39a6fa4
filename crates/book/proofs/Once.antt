-- No second answer is right: one judgement alone is true of the bytes, and each of judge's answers says another number, offset or
-- count of phrases. Assumes nothing.
use mathlib.Core.Path.{◌≡◌, sym, ap, ap₂, ◌∙◌}
use mathlib.Core.List.{List}
use Prim.Native.Nat.{ℕ}
use native.Mathlib.Omega.{arith}
use Rattle.format.specs.Judged.{Answer, answer_of}
use Rattle.format.proofs.Theorem.{judges_once}
use Rattle.format.proofs.Answers.{number_range, number_once}
use Rattle.records.specs.Refusals.{reason_of, refusal_for}
use Rattle.records.proofs.Names.{reason_back}
use Rattle.std.proofs.Common.{Result, Ok, Err}
use Rattle.records.specs.declared.refusals.Refusal.{Refusal}
use Rattle.records.specs.declared.refusals.Refused.{Refused}
use Rattle.book.specs.declared.answers.Accepted.{Accepted}
use Rattle.book.specs.Answers.{said_by, Meant, JudgedRight}

-- No two answers of judge say the same.
pub said_once : (a b : Result Accepted Refused) → said_by a ≡ said_by b → a ≡ b
unfolding said_by
said_once (Ok accepted) (Ok other) e =
    ap₂ (λ (length phrases : ℕ). Ok (record { length = length; phrases = phrases })) (ap (λ (r : Answer). r.offset) e) (ap (λ (r : Answer). r.phrases) e)
said_once (Ok accepted) (Err refused) e = absurd (omega (arith, ap (λ (r : Answer). r.number) e, number_range (reason_of refused.why)))
said_once (Err refused) (Ok accepted) e = absurd (omega (arith, ap (λ (r : Answer). r.number) e, number_range (reason_of refused.why)))
said_once (Err refused) (Err other) e =
    let same : reason_of refused.why ≡ reason_of other.why = number_once (reason_of refused.why) (reason_of other.why) (ap (λ (r : Answer). r.number) e) in
    ap₂ (λ (why : Refusal) (at : ℕ). Err (record { why = why; at = at }))
    (sym (reason_back refused.why) ∙ ap refusal_for same ∙ reason_back other.why) (ap (λ (r : Answer). r.offset) e)

-- By the meaning alone there is one answer for any bytes.
pub meant_once : (bytes : List ℕ) (a b : Result Accepted Refused) → Meant bytes a → Meant bytes b → a ≡ b
meant_once bytes a b m n = said_once a b (m.said ∙ ap answer_of (judges_once bytes m.judgement n.judgement m.true_of n.true_of) ∙ sym n.said)

-- So there is by all that judge ensures.
pub judged_once : (bytes : List ℕ) (a b : Result Accepted Refused) → JudgedRight bytes a → JudgedRight bytes b → a ≡ b
judged_once bytes a b r s = meant_once bytes a b r.meant s.meant
