-- While judge reads, what it answers for the rest is what is answered for the whole: each turn passes one record, refuses for its
-- first fault, or comes to the book's end. Assumes nothing.
use mathlib.Core.Path.{◌≡◌, refl, sym, ap, subst, ◌∙◌}
use mathlib.Core.List.{List, [], ◌∷◌}
use mathlib.Core.Option.{Option, none, some}
use Prim.Native.Nat.{ℕ, zero, suc, ◌+◌, ◌≤◌, ◌<◌}
use native.Mathlib.Numerals.{add-one}
use native.Mathlib.Omega.{arith}
use lib.ListN.{length, take, drop, get_or, length-drop, drop_of_length-le}
use lib.Seq.{drop-cons, drop-drop}
use Rattle.meaning.specs.Books.{keywords}
use Rattle.format.specs.Refusals as format
use Rattle.format.specs.Refusals.{refusal_number}
use Rattle.format.specs.Limits.{Bytes}
use Rattle.format.specs.Stages.{Stage, start, headed, named, gapped, worded, ended, phrases_at, SoFar}
use Rattle.format.specs.Faults.{body_length, first_fault}
use Rattle.format.specs.Judged.{answer_of, onward, judged_from, judged}
use Rattle.format.proofs.Lists.{all_take, all_drop}
use Rattle.format.proofs.FirstFault.{stands_iff}
use Rattle.format.proofs.Kept.{leads_on}
use Rattle.format.proofs.Reading.{answered, fault_refuses}
use Rattle.format.proofs.Theorem.{judged_judges}
use Rattle.counters.specs.Counters as counters
use Rattle.records.specs.Refusals.{refusal_for}
use Rattle.records.proofs.Names.{refusal_said}
use Rattle.records.specs.declared.refusals.Refusal.{Refusal}
use Rattle.records.specs.declared.records.Found.{Found}
use Rattle.records.specs.Records.{read_at}
use Rattle.records.specs.Readers.{past_of}
use Rattle.records.specs.Prefixes.{keywords_before}
use Rattle.records.proofs.Walk.{Walk, here, walked_before}
use Rattle.std.proofs.Common.{Result, Ok, Err}
use Rattle.records.specs.declared.refusals.Refused.{Refused}
use Rattle.book.specs.declared.answers.Accepted.{Accepted}
use Rattle.book.specs.declared.progress.Stage as code
use Rattle.book.specs.declared.progress.Stage.TheVariants.{Start}
use Rattle.book.specs.declared.progress.Tally.{Tally}
use Rattle.book.specs.declared.progress.Reached.{Reached}
use Rattle.book.specs.Judging.{Small, Turn, to, turn_at, stop_answer}
use Rattle.book.specs.Tallies.{name_of, tally_of, turn_for}
use Rattle.book.specs.Answers.{said_by, JudgedRight}
use Rattle.book.proofs.Tallied.{start_tally, tally_small}
use Rattle.book.proofs.Turned.{next, body, long, passed, further, turn_agrees}

-- ── The loop's invariant ──

-- Judge has read up to an offset: what it keeps is that of a stage within the limits, the records before the offset have the stage's
-- keywords, and what is answered from here on is what is answered for the whole.
pub record Reading (bytes : List ℕ) (at : ℕ) (name : code.Stage) (tally : Tally) : Type 0 where
  pub stage : Stage
  pub reached : name ≡ name_of stage
  pub keeps : tally ≡ tally_of stage
  pub within : SoFar stage
  pub inside : at ≤ length bytes
  pub walk : Walk bytes 0 at (keywords (phrases_at stage))
  pub fuel : ℕ
  pub enough : length bytes ≤ fuel + at
  pub rest : judged_from fuel stage at (drop at bytes) ≡ judged bytes

pub reading_starts : (bytes : List ℕ) → Reading bytes 0 Start (record { phrases = 0; last = counters.number_of 0; own = 0; pieces = 0; prefixes = 0 })
unfolding SoFar judged keywords phrases_at name_of
reading_starts bytes = record {
  stage = start;
  reached = refl;
  keeps = start_tally;
  within = tt;
  inside = omega arith;
  walk = here;
  fuel = length bytes;
  enough = omega arith;
  rest = refl;
}

pub reading_small : {bytes : List ℕ} {at : ℕ} {name : code.Stage} {tally : Tally} → Reading bytes at name tally → Small tally
reading_small r = rw r.keeps (tally_small r.stage r.within)

-- What comes of a turn: reading goes on further ahead, or the answer is the document's.
abbrev pub Comes : List ℕ → ℕ → Turn → Type 0
Comes bytes at (Ok reached) = (at < past_of (read_at bytes at) at) × Reading bytes (past_of (read_at bytes at) at) reached.stage reached.tally
Comes bytes at (Err why) = said_by (Err (record { why = why; at = at })) ≡ answer_of (judged bytes)

-- ── What comes of a turn ──

-- At the book's end the answer is given there and then.
stop_answers : (stage : Stage) (at : ℕ) → said_by (stop_answer (name_of stage) (tally_of stage) at) ≡ answer_of (judged_from zero stage at [])
unfolding stop_answer tally_of name_of phrases_at said_by answer_of judged_from
stop_answers start at = refl
stop_answers headed at = refl
stop_answers (named phrases phrase) at = refl
stop_answers (gapped phrases phrase gap) at = refl
stop_answers (worded phrases phrase) at = refl
stop_answers (ended phrases) at = refl

at_end : (fuel : ℕ) (stage : Stage) (at : ℕ) → judged_from zero stage at [] ≡ judged_from fuel stage at []
unfolding judged_from
at_end zero stage at = refl
at_end (suc n) stage at = refl

-- Without a fault, the answer is that for what stands behind the record.
goes_on_lem : (fuel : ℕ) (stage : Stage) (at k : ℕ) (behind : List ℕ) → first_fault stage (k ∷ behind) ≡ none
    → judged_from (suc fuel) stage at (k ∷ behind) ≡ judged_from fuel (onward stage k (take (body_length k) behind)) (at + (1 + body_length k)) (drop (body_length k) behind)
unfolding judged_from
goes_on_lem fuel stage at k behind e =
    ap (λ (o : Option format.Refusal). answered o at (judged_from fuel (onward stage k (take (body_length k) behind)) (at + (1 + body_length k)) (drop (body_length k) behind))) e

-- What says what the document does is right.
judged_right : (bytes : List ℕ) → Bytes bytes → {answer : Result Accepted Refused} → said_by answer ≡ answer_of (judged bytes) → JudgedRight bytes answer
judged_right bytes in_bytes e = record { exact = e; meant = record { judgement = judged bytes; true_of = judged_judges bytes in_bytes; said = e } }

module _ (bytes : List ℕ) (in_bytes : Bytes bytes) (at : ℕ) {name : code.Stage} {tally : Tally} (r : Reading bytes at name tally) where
  pub stops_right : length bytes ≤ at → {answer : Result Accepted Refused} → answer ≡ stop_answer name tally at → JudgedRight bytes answer
  stops_right past is =
      judged_right bytes in_bytes (rw (is, r.reached, r.keeps) (stop_answers r.stage at
      ∙ ap answer_of (at_end r.fuel r.stage at ∙ ap (judged_from r.fuel r.stage at) (sym (drop_of_length-le bytes past)) ∙ r.rest)))

  module _ (inside : at < length bytes) where
    before : keywords_before bytes at ≡ keywords (phrases_at r.stage)
    before = walked_before r.walk r.inside

    split : drop at bytes ≡ get_or bytes at 0 ∷ drop (at + 1) bytes
    split = rw (add-one at) (drop-cons bytes at 0 inside)

    refuses_right : (why : format.Refusal) → first_fault r.stage (drop at bytes) ≡ some why → Comes bytes at (Err (refusal_for why))
    unfolding said_by answer_of
    refuses_right why e =
        ap (λ (w : format.Refusal). record { number = refusal_number w; offset = at; phrases = 0 }) (refusal_said why)
        ∙ ap answer_of (sym (fault_refuses r.fuel r.stage at (drop at bytes) why e) ∙ r.rest)

    module _ (e : first_fault r.stage (get_or bytes at 0 ∷ drop (at + 1) bytes) ≡ none) where
      on : Stage
      on = onward r.stage (get_or bytes at 0) (body bytes at inside)

      leads : SoFar on
      unfolding on
      leads =
          let l = leads_on r.stage r.within (get_or bytes at 0) (body bytes at inside)
          (all_take (λ x. x < 256) (body_length (get_or bytes at 0)) (drop (at + 1) bytes) (all_drop (λ x. x < 256) (at + 1) bytes in_bytes))
          ((stands_iff r.stage (get_or bytes at 0) (drop (at + 1) bytes)).0 e) in
          rw l.1.goes l.1.to

      behind_it_lem : drop (next bytes at inside) bytes ≡ drop (body_length (get_or bytes at 0)) (drop (at + 1) bytes)
      behind_it_lem =
          let same : at + (1 + body_length (get_or bytes at 0)) ≡ at + 1 + body_length (get_or bytes at 0) = omega arith in
          ap (λ (n : ℕ). drop n bytes) same ∙ sym (drop-drop (body_length (get_or bytes at 0)) (at + 1) bytes)

      goes_right : Reading bytes (next bytes at inside) (name_of on) (tally_of on)
      unfolding on
      goes_right = go r.fuel r.enough r.rest
        where
          go : (n : ℕ) → length bytes ≤ n + at → judged_from n r.stage at (drop at bytes) ≡ judged bytes → Reading bytes (next bytes at inside) (name_of on) (tally_of on)
          go zero enough rest = absurd (omega arith)
          go (suc n) enough rest = record {
            stage = on;
            reached = refl;
            keeps = refl;
            within = leads;
            inside = omega (arith, length-drop (at + 1) bytes, long bytes at inside r.stage before e);
            walk = further bytes at inside r.stage before e r.walk;
            fuel = n;
            enough = omega arith;
            rest = ap (judged_from n on (next bytes at inside)) behind_it_lem ∙ sym (goes_on_lem n r.stage at (get_or bytes at 0) (drop (at + 1) bytes) e)
                ∙ ap (judged_from (suc n) r.stage at) (sym split) ∙ rest;
          }

      goes_on_right : Comes bytes at (to (name_of on) (tally_of on))
      goes_on_right = rw (passed bytes at inside r.stage before e) (omega arith, goes_right)

    reading_comes : Comes bytes at (turn_at bytes at name tally (read_at bytes at))
    unfolding turn_for on
    reading_comes = rw (r.reached, r.keeps, turn_agrees bytes at inside r.stage before) (go (first_fault r.stage (get_or bytes at 0 ∷ drop (at + 1) bytes)) refl)
      where
        go : (fault : Option format.Refusal) → first_fault r.stage (get_or bytes at 0 ∷ drop (at + 1) bytes) ≡ fault
            → Comes bytes at (turn_for fault (onward r.stage (get_or bytes at 0) (body bytes at inside)))
        go (some why) e = refuses_right why (rw split e)
        go none e = goes_on_right e

    -- What was found there, and the turn that the code took for it.
    module _ {found : Result Found Refused} (is : found ≡ read_at bytes at) {turn : Turn} (took : turn ≡ turn_at bytes at name tally found) where
      comes_as : {told : Turn} → turn ≡ told → Comes bytes at told
      comes_as tells = subst (λ (turn : Turn). Comes bytes at turn) (ap (turn_at bytes at name tally) (sym is) ∙ sym took ∙ tells) reading_comes

      pub goes_as : {reached : Reached} → turn ≡ Ok reached → {next : ℕ} → next ≡ past_of found at → (at < next) × Reading bytes next reached.stage reached.tally
      goes_as tells there = rw (there, is) (comes_as tells)

      pub refused_as : {why : Refusal} → turn ≡ Err why → JudgedRight bytes (Err (record { why = why; at = at }))
      refused_as tells = judged_right bytes in_bytes (comes_as tells)
