-- Wherever reading is, what is answered from there on is right of all the bytes: a fault refuses at the offset of its record, and
-- without one the record leads on. Assumes nothing.
use mathlib.Core.Path.{◌≡◌, refl, ap, ◌∙◌}
use mathlib.Core.List.{List, [], ◌∷◌, ◌++◌, append_assoc, append-nil}
use mathlib.Core.Option.{Option, none, some}
use Prim.Native.Nat.{ℕ, zero, suc, ◌+◌, ◌≤◌, ◌<◌}
use native.Mathlib.Omega.{arith}
use lib.ListN.{length, take, drop, length-append, length-drop, take-append-drop}
use lib.Seq.{take-append_seam, drop-append_seam}
use Rattle.format.specs.Refusals.{Refusal, cut}
use Rattle.format.specs.Limits.{All, Bytes}
use Rattle.format.specs.Stages.{Stage, start, headed, named, gapped, worded, ended, written_to, SoFar}
use Rattle.format.specs.Faults.{body_length, first_fault}
use Rattle.format.specs.Judged.{Judgement, onward, stopped, judged_from, judged, RefusedFor, Judges}
use Rattle.format.proofs.Lists.{all_take, all_drop}
use Rattle.format.proofs.FirstFault.{stands_iff}
use Rattle.format.proofs.Kept.{leads_on}
use Rattle.format.proofs.Reading.{answered}

-- A fault refuses at the record's offset.
refused_here : (stage : Stage) (rest : List ℕ) (why : Refusal) → SoFar stage → first_fault stage rest ≡ some why
    → RefusedFor (written_to stage ++ rest) why (length (written_to stage))
refused_here stage rest why so_far e = record {
  stage = stage;
  before = take-append_seam (written_to stage) rest;
  inside = omega (arith, length-append (written_to stage) rest);
  within = so_far;
  fault = rw (drop-append_seam (written_to stage) rest) e;
}

-- The book stops.
stop_right : (stage : Stage) → SoFar stage
    → Judges (written_to stage ++ []) (answered (first_fault stage []) (length (written_to stage)) (stopped stage (length (written_to stage))))
unfolding Judges stopped first_fault written_to SoFar
stop_right start s = refused_here start [] cut s refl
stop_right headed s = refused_here headed [] cut s refl
stop_right (named phrases phrase) s = refused_here (named phrases phrase) [] cut s refl
stop_right (gapped phrases phrase gap) s = refused_here (gapped phrases phrase gap) [] cut s refl
stop_right (worded phrases phrase) s = refused_here (worded phrases phrase) [] cut s refl
stop_right (ended phrases) s = (
  record { whole = append-nil (written_to (ended phrases)); within = record { each = s.0; counts = s.1; some = s.2 } },
  omega (arith, length-append (written_to (ended phrases)) []),
)

-- From whatever stage within the limits these bytes are read, the answer is right.
abbrev Right : ℕ → List ℕ → Type 0
Right f rest = (stage : Stage) → SoFar stage → Judges (written_to stage ++ rest) (judged_from f stage (length (written_to stage)) rest)

-- What is answered for the bytes behind a record.
abbrev behind_it : ℕ → Stage → ℕ → List ℕ → Judgement
behind_it f stage k behind =
    judged_from f (onward stage k (take (body_length k) behind)) (length (written_to stage) + (1 + body_length k)) (drop (body_length k) behind)

-- The book goes on with a record.
record_right : (f : ℕ) (stage : Stage) → SoFar stage → (k : ℕ) (behind : List ℕ) → Bytes behind → Right f (drop (body_length k) behind)
    → (v : Option Refusal) → first_fault stage (k ∷ behind) ≡ v
    → Judges (written_to stage ++ k ∷ behind) (answered v (length (written_to stage)) (behind_it f stage k behind))
unfolding Judges
record_right f stage s k behind bytes ih (some why) e = refused_here stage (k ∷ behind) why s e
record_right f stage s k behind bytes ih none e =
    let body : List ℕ = take (body_length k) behind in
    let left : List ℕ = drop (body_length k) behind in
    let r = leads_on stage s k body (all_take (λ x. x < 256) (body_length k) behind bytes) ((stands_iff stage k behind).0 e) in
    let next : Stage = r.0 in
    let all : written_to next ++ left ≡ written_to stage ++ k ∷ behind =
    ap (λ (l : List ℕ). l ++ left) r.1.writes ∙ append_assoc (written_to stage) (k ∷ body) left
    ∙ ap (λ (l : List ℕ). written_to stage ++ k ∷ l) (take-append-drop (body_length k) behind) in
    let long : length (written_to next) ≡ length (written_to stage) + (1 + body_length k) =
    omega (arith, ap length r.1.writes, length-append (written_to stage) (k ∷ body), r.1.stands.whole) in
    rw (r.1.goes, ← all, ← long) (ih next r.1.to)

-- Both, with turns enough for the bytes.
right_from : (f : ℕ) (rest : List ℕ) → length rest ≤ f → Bytes rest → Right f rest
unfolding judged_from All
right_from zero [] l bytes stage s = stop_right stage s
right_from zero (k ∷ behind) l bytes stage s = absurd (omega arith)
right_from (suc f) [] l bytes stage s = stop_right stage s
right_from (suc f) (k ∷ behind) l bytes stage s =
    record_right f stage s k behind bytes.1
    (right_from f (drop (body_length k) behind) (omega (arith, length-drop (body_length k) behind)) (all_drop (λ x. x < 256) (body_length k) behind bytes.1))
    (first_fault stage (k ∷ behind)) refl

-- So is the answer for all the bytes.
pub judged_right : (bytes : List ℕ) → Bytes bytes → Judges bytes (judged bytes)
unfolding judged written_to SoFar
judged_right bytes h = right_from (length bytes) bytes (omega arith) h start tt
