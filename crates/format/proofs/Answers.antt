-- The answer's number tells the judgement apart: 0 is accepted, and each refusal has a number of its own, so that number and offset
-- say as much as the reason and the place. Assumes nothing.
use mathlib.Core.Path.{◌≡◌, refl, sym, ap, ◌∙◌}
use mathlib.Core.Logic.{◌↔◌}
use mathlib.Core.List.{List, [], ◌∷◌}
use Prim.Native.Nat.{ℕ, ◌-◌, ◌≤◌}
use native.Mathlib.Omega.{arith}
use lib.ListN.{length, get_or}
use Rattle.meaning.specs.Books.{Book}
use Rattle.format.specs.Refusals.{Refusal, cut, kind, field, crossed, order, many, total, full, refusal_number}
use Rattle.format.specs.Limits.{Bytes, Between}
use Rattle.format.specs.Judged.{Judgement, accepted, refused, answer_of, judged, RefusedFor, AcceptedAs, Judges}
use Rattle.format.proofs.Theorem.{judged_judges, judges_judged}

-- ── Numbers ──

-- A refusal has a number from 2 to 9.
pub number_range : (why : Refusal) → Between 2 9 (refusal_number why)
unfolding refusal_number
number_range cut = omega arith
number_range kind = omega arith
number_range field = omega arith
number_range crossed = omega arith
number_range order = omega arith
number_range many = omega arith
number_range total = omega arith
number_range full = omega arith

-- The refusal of a number: they are counted from 2 on.
reason_of : ℕ → Refusal
reason_of n = get_or (cut ∷ kind ∷ field ∷ crossed ∷ order ∷ many ∷ total ∷ full ∷ []) (n - 2) cut

reason_back : (why : Refusal) → reason_of (refusal_number why) ≡ why
unfolding refusal_number reason_of
reason_back cut = refl
reason_back kind = refl
reason_back field = refl
reason_back crossed = refl
reason_back order = refl
reason_back many = refl
reason_back total = refl
reason_back full = refl

-- No two refusals share a number.
pub number_once : (why other : Refusal) → refusal_number why ≡ refusal_number other → why ≡ other
number_once why other e = sym (reason_back why) ∙ ap reason_of e ∙ reason_back other

-- ── Answers ──

module _ (bytes : List ℕ) (h : Bytes bytes) where
  -- 0 is answered exactly when the bytes are the written form of a book within the limits.
  pub zero_iff : ((answer_of (judged bytes)).number ≡ 0) ↔ ((book : Book) × AcceptedAs bytes book)
  unfolding answer_of Judges
  zero_iff = (
    go (judged bytes) (judged_judges bytes h),
    λ a. ap (λ (j : Judgement). (answer_of j).number) (judges_judged bytes (accepted a.0 (length bytes)) (a.1, refl)),
  )
    where
      go : (j : Judgement) → Judges bytes j → (answer_of j).number ≡ 0 → (book : Book) × AcceptedAs bytes book
      go (accepted book offset) r e = (book, r.0)
      go (refused why offset) r e = absurd (omega (arith, number_range why))

  -- A refusal's number is answered, with an offset, exactly when the bytes are refused for that reason there.
  pub refusal_iff : (why : Refusal) (offset : ℕ)
      → (((answer_of (judged bytes)).number ≡ refusal_number why) × ((answer_of (judged bytes)).offset ≡ offset)) ↔ RefusedFor bytes why offset
  unfolding answer_of Judges
  refusal_iff why offset = (
    go (judged bytes) (judged_judges bytes h),
    λ r. let e : judged bytes ≡ refused why offset = judges_judged bytes (refused why offset) r in
        (ap (λ (j : Judgement). (answer_of j).number) e, ap (λ (j : Judgement). (answer_of j).offset) e),
  )
    where
      go : (j : Judgement) → Judges bytes j → ((answer_of j).number ≡ refusal_number why) × ((answer_of j).offset ≡ offset) → RefusedFor bytes why offset
      go (accepted book at) r e = absurd (omega (arith, number_range why))
      go (refused other at) r e = rw (number_once other why e.0, e.1) at r

  -- The offset is no further than the book's length.
  pub offset_inside : (answer_of (judged bytes)).offset ≤ length bytes
  unfolding answer_of Judges
  offset_inside = go (judged bytes) (judged_judges bytes h)
    where
      go : (j : Judgement) → Judges bytes j → (answer_of j).offset ≤ length bytes
      go (accepted book at) r = omega arith
      go (refused why at) r = r.inside
