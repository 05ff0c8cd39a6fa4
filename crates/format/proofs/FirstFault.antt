-- Of the tests for faults most do not concern a record's kind: what is left is, for each kind, the few faults that it can have,
-- in the document's order. Assumes nothing.
use mathlib.Core.Path.{◌≡◌, refl, ap}
use mathlib.Core.Logic.{◌↔◌}
use mathlib.Core.Bool.{Bool, true, false, So, not, cond, ◌&&◌, true≢false}
use mathlib.Core.List.{List, [], ◌∷◌, ◌++◌}
use mathlib.Core.Option.{Option, none, some}
use Prim.Native.Nat.{ℕ, ◌-◌, ◌<◌}
use native.Mathlib.Omega.{arith}
use lib.Dec.{leb, ltb, eqb}
use lib.ListN.{length, take, get_or, length-take}
use lib.Seq.{get_or-take, length-take-le}
use borrow.Author.Tests.{lt-ltb, le-ltb, ltb-false, not-false}
use Rattle.meaning.specs.Books.{keywords}
use Rattle.meaning.specs.Automaton.{first}
use Rattle.format.specs.Refusals.{cut, kind, field, crossed, order, many, total, full, in_order}
use Rattle.format.specs.Prefixes.{prefix_count}
use Rattle.format.specs.Limits.{the_edition, most_number, most_rights, most_least, most_most, most_phrases, most_prefixes, All}
use Rattle.format.specs.Written.{header_kind, phrase_kind, bounded_kind, open_kind, end_kind, keyword_base}
use Rattle.format.specs.Stages.{Stage, start, phrases_at}
use Rattle.format.specs.Faults.{is_keyword, allowed, body_length, two, between, last_number, may_stop, fault, first_fault, Stands}
pub use Rattle.format.proofs.Bodies.{between_iff, keyword_range, keyword_is, keyword_only, keyword_length, two_take, no_room}
use Rattle.format.proofs.Tests.{or_nothing}

-- ── What is no record ──

-- A book that stops has no fault where it may stop, and is cut short elsewhere.
pub stop_fault_lem : (stage : Stage) → first_fault stage [] ≡ cond (may_stop stage) none (some cut)
unfolding first_fault
stop_fault_lem stage = go (may_stop stage)
  where
    go : (v : Bool) → cond (not v) (some cut) none ≡ cond v none (some cut)
    go true = refl
    go false = refl

-- A kind that is not allowed is the first fault, whatever follows it.
pub kind_fault : (stage : Stage) (k : ℕ) (behind : List ℕ) → allowed stage k ≡ false → first_fault stage (k ∷ behind) ≡ some kind
unfolding first_fault
kind_fault stage k behind h = rw h

-- An allowed record that is cut short has that as its first fault, whatever the bytes that are there.
pub cut_fault : (stage : Stage) (k : ℕ) (behind : List ℕ) → So (allowed stage k) → length behind < body_length k → first_fault stage (k ∷ behind) ≡ some cut
unfolding first_fault
cut_fault stage k behind h l = rw (h, lt-ltb (length behind) (body_length k) l)

-- ── Records of each kind ──

module _ (behind : List ℕ) where
  -- A header is cut short, or its edition is not 1.
  pub header_fault : first_fault start (header_kind ∷ behind)
      ≡ cond (ltb (length behind) 1) (some cut) (cond (not (eqb (get_or behind 0 0) the_edition)) (some field) none)
  unfolding first_fault
  header_fault = rw (← get_or-take 1 behind 0 0 (omega arith))

  module _ (stage : Stage) where
    -- A phrase record is cut short, has a field out of range, is not above the one before, or is the 129th.
    pub phrase_fault : So (allowed stage phrase_kind) → first_fault stage (phrase_kind ∷ behind)
        ≡ cond (ltb (length behind) 3) (some cut)
        (cond (not (between 1 most_number (two behind 0) && between 1 most_rights (get_or behind 2 0))) (some field)
        (cond (leb (two behind 0) (last_number (phrases_at stage))) (some order)
        (cond (leb most_phrases (length (phrases_at stage))) (some many) none)))
    unfolding first_fault
    phrase_fault h = rw (h, two_take 3 behind 0 (omega arith), get_or-take 3 behind 2 0 (omega arith), or_nothing)

    -- A bounded gap is cut short, has a field out of range, has least above most, or is a piece too many.
    pub bounded_fault : So (allowed stage bounded_kind) → first_fault stage (bounded_kind ∷ behind)
        ≡ cond (ltb (length behind) 4) (some cut)
        (cond (not (leb (two behind 0) most_least && leb (two behind 2) most_most)) (some field)
        (cond (ltb (two behind 2) (two behind 0)) (some crossed)
        (cond (no_room stage) (some many) none)))
    unfolding first_fault
    bounded_fault h = rw (h, two_take 4 behind 0 (omega arith), two_take 4 behind 2 (omega arith))

    -- An open gap is cut short, has its least out of range, or is a piece too many.
    pub open_fault : So (allowed stage open_kind) → first_fault stage (open_kind ∷ behind)
        ≡ cond (ltb (length behind) 2) (some cut)
        (cond (not (leb (two behind 0) most_least)) (some field)
        (cond (no_room stage) (some many) none))
    unfolding first_fault
    open_fault h = rw (h, two_take 2 behind 0 (omega arith))

    -- An end record is cut short, or has another number than that of the phrases.
    pub end_fault : So (allowed stage end_kind) → first_fault stage (end_kind ∷ behind)
        ≡ cond (ltb (length behind) 2) (some cut)
        (cond (not (eqb (two behind 0) (length (phrases_at stage)))) (some total) none)
    unfolding first_fault
    end_fault h = rw (h, two_take 2 behind 0 (omega arith))

    -- A keyword is cut short, or brings the prefixes above 2,047.
    pub keyword_fault : (k : ℕ) → So (is_keyword k) → So (allowed stage k) → first_fault stage (k ∷ behind)
        ≡ cond (ltb (length behind) (k - keyword_base)) (some cut)
        (cond (ltb most_prefixes (prefix_count (keywords (phrases_at stage) ++ take (k - keyword_base) behind ∷ []))) (some full) none)
    unfolding first_fault
    keyword_fault k h a = simp (a, h, keyword_only k h)

-- ── No fault ──

-- There is no first of which a test holds exactly when it fails of each.
first_none : {A : Type 0} (test : A → Bool) (xs : List A) → (first test xs ≡ none) ↔ All (λ x. test x ≡ false) xs
unfolding first All
first_none test [] = (λ e. tt, λ h. refl)
first_none {A} test (x ∷ xs) = go (test x) (first_none test xs)
  where
    go : (v : Bool) → (first test xs ≡ none) ↔ All (λ x. test x ≡ false) xs
        → (cond {A = Option A} v (some x) (first test xs) ≡ none) ↔ ((v ≡ false) × All (λ x. test x ≡ false) xs)
    go true ih = (λ e. absurd (let z : ◌≡◌ {A = ℕ} 0 1 = cc in omega arith), λ h. absurd (true≢false h.0))
    go false ih = (λ e. (refl, ih.0 e), λ h. ih.1 h.1)

-- What is taken is so long as asked for exactly when there is enough.
enough : (n : ℕ) (behind : List ℕ) → (ltb (length behind) n ≡ false) ↔ (length (take n behind) ≡ n)
enough n behind = (
  λ e. length-take-le n behind (ltb-false (length behind) n e),
  λ e. le-ltb (length behind) n (omega (arith, length-take n behind)),
)

-- A record has no first fault exactly when it stands.
pub stands_iff : (stage : Stage) (k : ℕ) (behind : List ℕ) → (first_fault stage (k ∷ behind) ≡ none) ↔ Stands stage k (take (body_length k) behind)
unfolding first_fault All
stands_iff stage k behind = (
  λ e. let r = none_iff.0 e in
      record {
        allows = not-false (allowed stage k) r.0;
        whole = (enough (body_length k) behind).0 r.1.0;
        in_range = r.1.1.0;
        uncrossed = r.1.1.1.0;
        above = r.1.1.1.1.0;
        few_enough = r.1.1.1.1.1.0;
        right_total = r.1.1.1.1.1.1.0;
        not_full = r.1.1.1.1.1.1.1.0;
      },
  λ s. none_iff.1 (
    ap not s.allows,
    ((enough (body_length k) behind).1 s.whole, (s.in_range, (s.uncrossed, (s.above, (s.few_enough, (s.right_total, (s.not_full, tt))))))),
  ),
)
  where
    none_iff : (first_fault stage (k ∷ behind) ≡ none) ↔ All (λ why. fault stage (k ∷ behind) why ≡ false) in_order
    none_iff = first_none (fault stage (k ∷ behind)) in_order
