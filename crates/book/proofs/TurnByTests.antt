-- Of a whole record the first fault is told by the fields of its body, and its turn by the same tests in the same order.
-- Assumes nothing.
use mathlib.Core.Path.{◌≡◌, refl}
use mathlib.Core.Bool.{Bool, true, false, So, not, cond, ◌&&◌}
use mathlib.Core.List.{List, [], ◌∷◌, ◌++◌}
use mathlib.Core.Option.{Option, none, some}
use Prim.Native.Nat.{ℕ, ◌-◌, ◌≤◌}
use native.Mathlib.Omega.{arith}
use lib.Dec.{leb, ltb, eqb}
use lib.ListN.{length, take, get_or}
use borrow.Author.Tests.{le-ltb}
use Rattle.meaning.specs.Books.{Gap, Phrase, keywords}
use Rattle.meaning.specs.Matching.{bytes_after}
use Rattle.format.specs.Refusals.{Refusal, field, crossed, order, many, total, full}
use Rattle.format.specs.Prefixes.{prefix_count}
use Rattle.format.specs.Limits.{the_edition, most_number, most_rights, most_least, most_most, most_phrases, most_prefixes}
use Rattle.format.specs.Written.{header_kind, phrase_kind, bounded_kind, open_kind, end_kind, keyword_base}
use Rattle.format.specs.Stages.{Stage, start, headed, named, gapped, worded, ended, phrases_at, pieces_at}
use Rattle.format.specs.Faults.{is_keyword, allowed, body_length, two, between, last_number, first_fault}
use Rattle.format.specs.Judged.{phrase_of, with_piece}
use Rattle.format.proofs.Tests.{or_nothing}
use Rattle.format.proofs.Shared.{count_further}
use Rattle.format.proofs.Bodies.{keyword_length, no_room}
use Rattle.format.proofs.FirstFault as faults
use Rattle.counters.specs.Counters.{number_of}
use Rattle.records.specs.Refusals.{refusal_for}
use Rattle.records.specs.Prefixes.{keywords_before}
use Rattle.std.proofs.Common.{Err}
use Rattle.book.specs.Judging.{header_turn, phrase_turn, gap_turn, bounded_turn, open_turn, prefixes_with, keyword_turn, end_turn}
use Rattle.book.specs.Tallies.{name_of, tally_of, turn_for}
use Rattle.book.proofs.Tests.{one_by_one, not_at_most}
use Rattle.book.proofs.Tallied.{named_tally, worded_tally}

-- ── The first fault of a whole record, by its body ──

module _ (behind : List ℕ) where
  pub header_fault : body_length header_kind ≤ length behind
      → first_fault start (header_kind ∷ behind) ≡ cond (not (eqb (get_or (take (body_length header_kind) behind) 0 0) the_edition)) (some field) none
  unfolding first_fault
  header_fault long = rw (le-ltb (length behind) (body_length header_kind) long)

  module _ (stage : Stage) where
    pub phrase_fault : So (allowed stage phrase_kind) → body_length phrase_kind ≤ length behind
        → (let body : List ℕ = take (body_length phrase_kind) behind in
        first_fault stage (phrase_kind ∷ behind)
        ≡ cond (not (between 1 most_number (two body 0) && between 1 most_rights (get_or body 2 0))) (some field)
        (cond (leb (two body 0) (last_number (phrases_at stage))) (some order)
        (cond (leb most_phrases (length (phrases_at stage))) (some many) none)))
    unfolding first_fault
    phrase_fault h long = rw (h, le-ltb (length behind) (body_length phrase_kind) long, or_nothing)

    pub bounded_fault : So (allowed stage bounded_kind) → body_length bounded_kind ≤ length behind
        → (let body : List ℕ = take (body_length bounded_kind) behind in
        first_fault stage (bounded_kind ∷ behind)
        ≡ cond (not (leb (two body 0) most_least && leb (two body 2) most_most)) (some field)
        (cond (ltb (two body 2) (two body 0)) (some crossed) (cond (no_room stage) (some many) none)))
    unfolding first_fault
    bounded_fault h long = rw (h, le-ltb (length behind) (body_length bounded_kind) long)

    pub open_fault : So (allowed stage open_kind) → body_length open_kind ≤ length behind
        → (let body : List ℕ = take (body_length open_kind) behind in
        first_fault stage (open_kind ∷ behind) ≡ cond (not (leb (two body 0) most_least)) (some field) (cond (no_room stage) (some many) none))
    unfolding first_fault
    open_fault h long = rw (h, le-ltb (length behind) (body_length open_kind) long)

    pub end_fault : So (allowed stage end_kind) → body_length end_kind ≤ length behind
        → first_fault stage (end_kind ∷ behind) ≡ cond (not (eqb (two (take (body_length end_kind) behind) 0) (length (phrases_at stage)))) (some total) none
    unfolding first_fault
    end_fault h long = rw (h, le-ltb (length behind) (body_length end_kind) long)

    pub keyword_fault : (k : ℕ) → So (is_keyword k) → So (allowed stage k) → body_length k ≤ length behind
        → first_fault stage (k ∷ behind) ≡ cond (ltb most_prefixes (prefix_count (keywords (phrases_at stage) ++ take (body_length k) behind ∷ []))) (some full) none
    keyword_fault k h a long =
        rw (keyword_length k h, faults.keyword_fault behind stage k h a, le-ltb (length behind) (k - keyword_base) (rw (keyword_length k h) at long))

-- ── The turn of a record, by the same tests ──

-- A test that holds refuses, and else the turn goes by the tests behind it.
refuses : (test : Bool) (why : Refusal) (others : Option Refusal) (stage : Stage)
    → turn_for (cond test (some why) others) stage ≡ cond test (Err (refusal_for why)) (turn_for others stage)
unfolding turn_for
refuses true why others stage = refl
refuses false why others stage = refl

pub header_turn_lem : (edition : ℕ) → header_turn (tally_of start) edition ≡ turn_for (cond (not (eqb edition the_edition)) (some field) none) headed
unfolding header_turn tally_of name_of phrases_at pieces_at refusal_for turn_for
header_turn_lem edition = rw refuses refl

module _ (stage : Stage) where
  pub phrase_turn_lem : (body : List ℕ) → phrase_turn (tally_of stage) (number_of (two body 0)) (get_or body 2 0)
      ≡ turn_for
      (cond (not (between 1 most_number (two body 0) && between 1 most_rights (get_or body 2 0))) (some field)
      (cond (leb (two body 0) (last_number (phrases_at stage))) (some order)
      (cond (leb most_phrases (length (phrases_at stage))) (some many) none)))
      (named (phrases_at stage) (phrase_of body))
  unfolding phrase_turn tally_of name_of refusal_for turn_for
  phrase_turn_lem body = rw (refuses, refuses, refuses, ← named_tally (phrases_at stage) body) refl

  module _ (phrases : List Phrase) (phrase : Phrase) (gap : Gap) (is : phrases_at stage ≡ phrases ++ phrase ∷ []) (own : pieces_at stage ≡ phrase.pieces) where
    gap_turn_lem : gap_turn (tally_of stage) ≡ turn_for (cond (no_room stage) (some many) none) (gapped phrases phrase gap)
    unfolding gap_turn tally_of name_of refusal_for turn_for phrases_at pieces_at
    gap_turn_lem = rw (refuses, is, own) refl

    pub bounded_turn_lem : (least most : ℕ) → bounded_turn (tally_of stage) least most
        ≡ turn_for (cond (not (leb least most_least && leb most most_most)) (some field) (cond (ltb most least) (some crossed) (cond (no_room stage) (some many) none)))
        (gapped phrases phrase gap)
    unfolding bounded_turn refusal_for
    bounded_turn_lem least most = rw (one_by_one, not_at_most, not_at_most, refuses, refuses, refuses, gap_turn_lem)

    pub open_turn_lem : (least : ℕ) → open_turn (tally_of stage) least
        ≡ turn_for (cond (not (leb least most_least)) (some field) (cond (no_room stage) (some many) none)) (gapped phrases phrase gap)
    unfolding open_turn refusal_for
    open_turn_lem least = rw (not_at_most, refuses, gap_turn_lem)

pub end_turn_lem : (phrases : List Phrase) (phrase : Phrase) (count : ℕ) → end_turn (tally_of (worded phrases phrase)) count
    ≡ turn_for (cond (not (eqb count (length (phrases ++ phrase ∷ [])))) (some total) none) (ended (phrases ++ phrase ∷ []))
unfolding end_turn tally_of name_of phrases_at pieces_at refusal_for turn_for
end_turn_lem phrases phrase count = rw refuses refl

module _ (at : ℕ) (bytes : List ℕ) (phrases : List Phrase) (phrase : Phrase) (gap : Gap) (before : keywords_before bytes at ≡ keywords (phrases ++ phrase ∷ [])) where
  prefixes_with_lem : (x n : ℕ) → length (bytes_after x n bytes) ≡ n
      → prefixes_with bytes (tally_of (gapped phrases phrase gap)) x n at ≡ prefix_count (keywords (phrases ++ phrase ∷ []) ++ bytes_after x n bytes ∷ [])
  unfolding prefixes_with tally_of phrases_at
  prefixes_with_lem x n long = rw before (omega (arith, count_further (keywords (phrases ++ phrase ∷ [])) (bytes_after x n bytes)))

  pub keyword_turn_lem : (x n : ℕ) → length (bytes_after x n bytes) ≡ n → keyword_turn bytes (tally_of (gapped phrases phrase gap)) x n at
      ≡ turn_for (cond (ltb most_prefixes (prefix_count (keywords (phrases ++ phrase ∷ []) ++ bytes_after x n bytes ∷ []))) (some full) none)
      (worded phrases (with_piece phrase (record { gap = gap; keyword = bytes_after x n bytes })))
  unfolding keyword_turn refusal_for turn_for tally_of name_of phrases_at pieces_at
  keyword_turn_lem x n long = rw (prefixes_with_lem x n long, refuses, worded_tally phrases phrase gap (bytes_after x n bytes))
