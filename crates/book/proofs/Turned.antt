-- One turn is that of the first fault of what stands at the offset, and a record that stands leads on to the next one, with its
-- keyword behind those before it. Assumes nothing.
use mathlib.Core.Path.{◌≡◌, refl, sym, ap, ◌∙◌}
use mathlib.Core.Logic.{⊎_elim}
use mathlib.Core.Bool.{Bool, true, false, So, ◌||◌, false≢true}
use mathlib.Core.List.{List, ◌∷◌}
use mathlib.Core.Option.{Option, none}
use Prim.Native.Nat.{ℕ, ◌+◌, ◌≤◌, ◌<◌}
use native.Mathlib.Omega.{arith}
use lib.Dec.{eqb}
use lib.ListN.{length, take, drop, get_or, length-take}
use borrow.Author.Tests.{eqb-true}
use Rattle.lent.proofs.Cases.{lt_or_le}
use Rattle.meaning.specs.Books.{keywords}
use Rattle.format.specs.Refusals as format
use Rattle.format.specs.Written.{header_kind, phrase_kind, bounded_kind, open_kind, end_kind}
use Rattle.format.specs.Stages.{Stage, start, headed, named, gapped, worded, ended, phrases_at}
use Rattle.format.specs.Faults.{is_gap, is_keyword, allowed, body_length, first_fault, Stands}
use Rattle.format.specs.Judged.{onward}
use Rattle.format.proofs.Tests.{or_cases}
use Rattle.format.proofs.Bodies.{keyword_only}
use Rattle.format.proofs.FirstFault.{kind_fault, cut_fault, stands_iff}
use Rattle.std.proofs.Common.{Result, Ok}
use Rattle.records.specs.declared.records.Found.{Found}
use Rattle.records.specs.declared.refusals.Refused.{Refused}
use Rattle.records.specs.Refusals.{refusal_for}
use Rattle.records.specs.Records.{whole_at, read_at}
use Rattle.records.specs.Kinds.{known}
use Rattle.records.specs.Readers.{past_of}
use Rattle.records.specs.Prefixes.{keyword_of, keyword_in, keywords_before}
use Rattle.records.proofs.Standing.{read_cut, read_whole}
use Rattle.records.proofs.Shared.{whole_next}
use Rattle.records.proofs.Walk.{Ends, Walk, walk_further}
use Rattle.book.specs.Judging.{found_turn, turn_at}
use Rattle.book.specs.Tallies.{name_of, tally_of, turn_for}
use Rattle.book.proofs.Tallied.{allowed_name}
use Rattle.book.proofs.Agree.{record_agrees}

-- ── Known kinds ──

-- A kind that may stand somewhere is known.
at_kind : (k other : ℕ) → So (known other) → So (eqb k other) → So (known k)
at_kind k other h is = rw (eqb-true k other is) h

keyword_known : (k : ℕ) → So (is_keyword k) → So (known k)
unfolding known
keyword_known k h = simp (keyword_only k h) h

gap_known : (k : ℕ) → So (is_gap k) → So (known k)
unfolding known is_gap
gap_known k h = ⊎_elim (at_kind k bounded_kind refl) (at_kind k open_kind refl) (or_cases (eqb k bounded_kind) (eqb k open_kind) h)

allowed_known : (stage : Stage) (k : ℕ) → So (allowed stage k) → So (known k)
unfolding allowed known
allowed_known start k h = at_kind k header_kind refl h
allowed_known headed k h = at_kind k phrase_kind refl h
allowed_known (named phrases phrase) k h = gap_known k h
allowed_known (gapped phrases phrase gap) k h = keyword_known k h
allowed_known (worded phrases phrase) k h = ⊎_elim (at_kind k phrase_kind refl)
    (λ h. ⊎_elim (at_kind k end_kind refl) (gap_known k) (or_cases (eqb k end_kind) (is_gap k) h))
    (or_cases (eqb k phrase_kind) (eqb k end_kind || is_gap k) h)
allowed_known (ended phrases) k h = absurd (false≢true h)

-- ── A turn ──

module _ (bytes : List ℕ) (at : ℕ) (inside : at < length bytes) where
  -- The kind byte, the bytes behind it, those of the body, and the offset of the next record.
  abbrev k : ℕ
  k = get_or bytes at 0

  abbrev behind : List ℕ
  behind = drop (at + 1) bytes

  abbrev pub body : List ℕ
  body = take (body_length (get_or bytes at 0)) (drop (at + 1) bytes)

  abbrev pub next : ℕ
  next = at + (1 + body_length (get_or bytes at 0))

  module _ (stage : Stage) (before : keywords_before bytes at ≡ keywords (phrases_at stage)) where
    pub turn_agrees : turn_at bytes at (name_of stage) (tally_of stage) (read_at bytes at) ≡ turn_for (first_fault stage (k ∷ behind)) (onward stage k body)
    unfolding turn_at turn_for found_turn refusal_for
    turn_agrees = go (allowed stage k) refl
      where
        found : So (allowed stage k) → found_turn bytes at (tally_of stage) (read_at bytes at) ≡ turn_for (first_fault stage (k ∷ behind)) (onward stage k body)
        found h = ⊎_elim
            (λ (short : length behind < body_length k). ap (found_turn bytes at (tally_of stage)) (sym (read_cut bytes at inside (allowed_known stage k h) short))
            ∙ ap (λ (o : Option format.Refusal). turn_for o (onward stage k body)) (sym (cut_fault stage k behind h short)))
            (λ (long : body_length k ≤ length behind). ap (found_turn bytes at (tally_of stage)) (sym (read_whole bytes at inside (allowed_known stage k h) long))
            ∙ (record_agrees bytes at stage k h before long).turn)
            (lt_or_le (length behind) (body_length k))

        go : (v : Bool) → allowed stage k ≡ v → turn_at bytes at (name_of stage) (tally_of stage) (read_at bytes at) ≡ turn_for (first_fault stage (k ∷ behind)) (onward stage k body)
        go true h = rw (allowed_name stage k, h) (found h)
        go false h = rw (allowed_name stage k, h, kind_fault stage k behind h)

    -- A record that stands ends at the next one, and its keyword comes behind those before it.
    module _ (stands : first_fault stage (k ∷ behind) ≡ none) where
      whole : Stands stage k body
      whole = (stands_iff stage k behind).0 stands

      pub long : body_length k ≤ length behind
      long = omega (arith, length-take (body_length k) behind, whole.whole)

      read_it : read_at bytes at ≡ Ok (whole_at bytes at k)
      read_it = sym (read_whole bytes at inside (allowed_known stage k whole.allows) long)

      ends : Ends bytes at next
      ends = record { ahead = omega arith; there = λ end. ap (λ (found : Result Found Refused). past_of found end) read_it ∙ whole_next bytes at k }

      pub passed : past_of (read_at bytes at) at ≡ next
      passed = ends.there at

      word : keyword_of bytes (whole_at bytes at k).says ≡ keyword_in bytes (read_at bytes at)
      unfolding keyword_in
      word = ap (keyword_in bytes) (sym read_it)

      pub further : Walk bytes 0 at (keywords (phrases_at stage)) → Walk bytes 0 next (keywords (phrases_at (onward stage k body)))
      further walk = rw ((record_agrees bytes at stage k whole.allows before long).words, word) (walk_further walk ends)
