-- Reading comes to every stage within the limits whose bytes stand at the front, record by record, and the first fault there
-- decides: so whatever is a right answer is given. Assumes nothing.
use mathlib.Core.Path.{◌≡◌, refl, sym, ap, ◌∙◌}
use mathlib.Core.Logic.{⊎_elim}
use mathlib.Core.List.{List, [], ◌∷◌, ◌++◌, append_assoc, append-nil}
use mathlib.Core.Option.{Option, none, some}
use Prim.Native.Nat.{ℕ, zero, suc, ◌+◌, ◌≤◌, ◌<◌}
use native.Mathlib.Omega.{arith}
use lib.ListN.{length, take, drop, length-append, take-append-drop}
use lib.Seq.{take_at, drop_at, length-take-le}
use Rattle.meaning.specs.Books.{Phrase, Book}
use Rattle.format.specs.Refusals.{Refusal}
use Rattle.format.specs.Limits.{Within}
use Rattle.format.specs.Written.{written}
use Rattle.format.specs.Stages.{Stage, start, ended, written_to, SoFar}
use Rattle.format.specs.Faults.{body_length, first_fault}
use Rattle.format.specs.Judged.{Judgement, accepted, refused, onward, stopped, judged_from, judged, RefusedFor}
use Rattle.format.proofs.FirstFault.{stands_iff}
use Rattle.format.proofs.Steps.{Leads}
use Rattle.format.proofs.Made.{Made}
use Rattle.format.proofs.Came.{came}

-- What is answered at an offset for a first fault, or where there is none.
abbrev pub answered : Option Refusal → ℕ → Judgement → Judgement
answered v offset next = elim v [ some why ↦ refused why offset | none ↦ next ]

-- ── To every stage ──

-- A record that leads on is read.
read_one : (stage next : Stage) (k : ℕ) (body : List ℕ) → Leads stage k body next → (f offset : ℕ) (rest : List ℕ)
    → judged_from (suc f) stage offset (k ∷ (body ++ rest)) ≡ judged_from f next (offset + length (k ∷ body)) rest
unfolding judged_from
read_one stage next k body leads f offset rest =
    ap (λ (v : Option Refusal). answered v offset after) no_fault ∙ same
  where
    its : take (body_length k) (body ++ rest) ≡ body
    its = take_at body rest (body_length k) leads.stands.whole

    no_fault : first_fault stage (k ∷ (body ++ rest)) ≡ none
    no_fault = (stands_iff stage k (body ++ rest)).1 (rw its leads.stands)

    after : Judgement
    after = judged_from f (onward stage k (take (body_length k) (body ++ rest))) (offset + (1 + body_length k)) (drop (body_length k) (body ++ rest))

    same : after ≡ judged_from f next (offset + length (k ∷ body)) rest
    same =
        let n : offset + (1 + body_length k) ≡ offset + length (k ∷ body) = omega (arith, leads.stands.whole) in
        let d : drop (body_length k) (body ++ rest) ≡ rest = drop_at body rest (body_length k) leads.stands.whole in
        rw (its, leads.goes, n, d)

-- Reading comes to a stage, whatever stands behind it, with enough turns left for that.
unfoldable pub Reached : Stage → Type 0
Reached stage = (rest : List ℕ) → (f : ℕ) × (length rest ≤ f) × (judged (written_to stage ++ rest) ≡ judged_from f stage (length (written_to stage)) rest)

start_reached : Reached start
unfolding Reached written_to judged
start_reached rest = (length rest, omega arith, refl)

one_more : (stage next : Stage) → Made stage next → Reached stage → Reached next
unfolding Reached
one_more stage next made reached rest = let r = reached (k ∷ (body ++ rest)) in go r.0 r.1 r.2
  where
    k : ℕ
    k = made.k

    body : List ℕ
    body = made.body

    offset : ℕ
    offset = length (written_to stage)

    go : (f : ℕ) → length (k ∷ (body ++ rest)) ≤ f → judged (written_to stage ++ k ∷ (body ++ rest)) ≡ judged_from f stage offset (k ∷ (body ++ rest))
        → (f : ℕ) × (length rest ≤ f) × (judged (written_to next ++ rest) ≡ judged_from f next (length (written_to next)) rest)
    go zero l e = absurd (omega arith)
    go (suc f) l e = (
      f,
      omega (arith, length-append body rest),
      rw (made.leads.writes, length-append (written_to stage) (k ∷ body), append_assoc (written_to stage) (k ∷ body) rest)
          (e ∙ read_one stage next k body made.leads f offset rest),
    )

longer : (stage next : Stage) → Made stage next → length (written_to stage) < length (written_to next)
longer stage next made = omega (arith, ap length made.leads.writes, length-append (written_to stage) (made.k ∷ made.body))

-- From stage to stage what is written grows, so that its length bounds how far back the start is.
reached_by : (n : ℕ) (stage : Stage) → SoFar stage → length (written_to stage) ≤ n → Reached stage
reached_by zero stage s l = ⊎_elim
    (λ (e : stage ≡ start). rw e start_reached)
    (λ c. absurd (omega (arith, longer c.stage stage c.made)))
    (came stage s)
reached_by (suc n) stage s l = ⊎_elim
    (λ (e : stage ≡ start). rw e start_reached)
    (λ c. one_more c.stage stage c.made (reached_by n c.stage c.made.leads.from (omega (arith, longer c.stage stage c.made))))
    (came stage s)

-- Reading comes to every stage within the limits.
pub reached : (stage : Stage) → SoFar stage → Reached stage
reached stage s = reached_by (length (written_to stage)) stage s (omega arith)

-- ── What is answered there ──

-- The first fault decides, whatever is left of turns.
pub fault_refuses : (f : ℕ) (stage : Stage) (offset : ℕ) (rest : List ℕ) (why : Refusal) → first_fault stage rest ≡ some why
    → judged_from f stage offset rest ≡ refused why offset
unfolding judged_from
fault_refuses zero stage offset rest why e = ap (λ (v : Option Refusal). answered v offset (stopped stage offset)) e
fault_refuses (suc f) stage offset [] why e = ap (λ (v : Option Refusal). answered v offset (stopped stage offset)) e
fault_refuses (suc f) stage offset (k ∷ behind) why e =
    let next : Judgement = judged_from f (onward stage k (take (body_length k) behind)) (offset + (1 + body_length k)) (drop (body_length k) behind) in
    ap (λ (v : Option Refusal). answered v offset next) e

-- What is refused for a reason, at an offset, is answered so.
pub refused_judged : (bytes : List ℕ) (why : Refusal) (offset : ℕ) → RefusedFor bytes why offset → judged bytes ≡ refused why offset
unfolding Reached
refused_judged bytes why offset r =
    let rest : List ℕ = drop offset bytes in
    let there = reached r.stage r.within rest in
    let all : written_to r.stage ++ rest ≡ bytes = ap (λ (l : List ℕ). l ++ rest) (sym r.before) ∙ take-append-drop offset bytes in
    let long : length (written_to r.stage) ≡ offset = ap length (sym r.before) ∙ length-take-le offset bytes r.inside in
    let refuses = fault_refuses there.0 r.stage (length (written_to r.stage)) rest why r.fault in
    ap judged (sym all) ∙ there.2 ∙ refuses ∙ ap (λ (n : ℕ). refused why n) long

end_accepts : (f : ℕ) (phrases : List Phrase) (offset : ℕ) → judged_from f (ended phrases) offset [] ≡ accepted (record { phrases = phrases }) offset
unfolding judged_from
end_accepts zero phrases offset = refl
end_accepts (suc f) phrases offset = refl

-- The written form of a book within the limits is answered with that book.
pub accepted_judged : (book : Book) → Within book → judged (written book) ≡ accepted book (length (written book))
unfolding Reached written_to SoFar
accepted_judged book within =
    let there = reached (ended book.phrases) (within.each, within.counts, within.some) [] in
    ap judged (sym (append-nil (written book))) ∙ there.2 ∙ end_accepts there.0 book.phrases (length (written book))
