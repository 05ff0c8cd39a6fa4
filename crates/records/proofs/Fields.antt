-- The fields of a record stand in the book where its body does: behind the kind byte, each at its own distance.
-- Assumes nothing.
use mathlib.Core.Path.{◌≡◌, sym, ap, ap₂, ◌∙◌}
use mathlib.Core.List.{List}
use Prim.Native.Nat.{ℕ, ◌+◌, ◌<◌}
use native.Mathlib.Omega.{arith}
use lib.ListN.{drop, get_or}
use lib.Seq.{get_or-take, get_or-drop}
use borrow.Author.Tests.{ne_eqb}
use Rattle.lent.specs.Numbers.{high_number_at}
use Rattle.counters.specs.declared.Number.{Number}
use Rattle.counters.proofs.Same.{same_number}
use Rattle.format.specs.Written.{header_kind, phrase_kind, bounded_kind, open_kind, end_kind}
use Rattle.format.specs.Faults.{body_length, two}
use Rattle.records.specs.declared.records.Cursor.{Cursor}
use Rattle.records.specs.declared.records.Record.{Record}
use Rattle.records.specs.declared.records.Record.TheVariants.{Header, Phrase, Bounded, Open, Keyword, End}
use Rattle.records.specs.declared.records.Found.{Found}
use Rattle.records.specs.Records.{body_at, behind, whole_at}

module _ (bytes : List ℕ) (at : ℕ) where
  -- The byte i of the body.
  body_byte : (k i place : ℕ) → i < body_length k → at + 1 + i ≡ place → get_or (body_at bytes at k) i 0 ≡ get_or bytes place 0
  unfolding body_at
  body_byte k i place inside there =
      get_or-take (body_length k) (drop (at + 1) bytes) i 0 inside ∙ get_or-drop (at + 1) bytes i 0 ∙ ap (λ (j : ℕ). get_or bytes j 0) there

  -- The number in the two bytes from i on.
  body_number : (k i place : ℕ) → i + 1 < body_length k → at + 1 + i ≡ place → high_number_at 2 bytes place ≡ two (body_at bytes at k) i
  unfolding two high_number_at
  body_number k i place inside there =
      let first : get_or (body_at bytes at k) i 0 ≡ get_or bytes place 0 = body_byte k i place (omega arith) there in
      let second : get_or (body_at bytes at k) (i + 1) 0 ≡ get_or bytes (place + 1) 0 = body_byte k (i + 1) (place + 1) inside (omega arith) in
      omega arith

  -- ── Each record, field by field ──

  -- What a record says, with the cursor behind it.
  abbrev found : Record → Cursor → Found
  found says next = record { says = says; next = next }

  -- Records are the same where their fields are.
  same_phrase : {m n : Number} {r s : ℕ} → m ≡ n → r ≡ s → Phrase m r ≡ Phrase n s
  same_phrase e f = rw (e, f)

  -- A record of kind k, with the cursor behind it.
  module _ (k : ℕ) {next : Cursor} (there : next ≡ behind at k) where
    pub header_whole : k ≡ header_kind → found (Header (get_or bytes (at + 1) 0)) next ≡ whole_at bytes at k
    unfolding whole_at body_length
    header_whole e = rw e (ap₂ found (ap Header (sym (body_byte header_kind 0 _ (omega arith) (omega arith)))) (rw e at there))

    pub phrase_whole : k ≡ phrase_kind → {number : Number} → number.0 ≡ high_number_at 2 bytes (at + 1) → (place : ℕ) → at + 1 + 2 ≡ place
        → found (Phrase number (get_or bytes place 0)) next ≡ whole_at bytes at k
    unfolding whole_at body_length
    phrase_whole e f place stands =
        rw e (ap₂ found (same_phrase (same_number (f ∙ body_number phrase_kind 0 _ (omega arith) (omega arith))) (sym (body_byte phrase_kind 2 place (omega arith) stands))) (rw e at there))

    pub bounded_whole : k ≡ bounded_kind → (place : ℕ) → at + 1 + 2 ≡ place
        → found (Bounded (high_number_at 2 bytes (at + 1)) (high_number_at 2 bytes place)) next ≡ whole_at bytes at k
    unfolding whole_at body_length
    bounded_whole e place stands =
        rw e (ap₂ found (ap₂ Bounded (body_number bounded_kind 0 _ (omega arith) (omega arith)) (body_number bounded_kind 2 place (omega arith) stands)) (rw e at there))

    pub open_whole : k ≡ open_kind → found (Open (high_number_at 2 bytes (at + 1))) next ≡ whole_at bytes at k
    unfolding whole_at body_length
    open_whole e = rw e (ap₂ found (ap Open (body_number open_kind 0 _ (omega arith) (omega arith))) (rw e at there))

    pub end_whole : k ≡ end_kind → found (End (high_number_at 2 bytes (at + 1))) next ≡ whole_at bytes at k
    unfolding whole_at body_length
    end_whole e = rw e (ap₂ found (ap End (body_number end_kind 0 _ (omega arith) (omega arith))) (rw e at there))

    pub keyword_whole : {body : ℕ} → body ≡ body_length k → (k ≡ header_kind → ⊥) → (k ≡ phrase_kind → ⊥) → (k ≡ bounded_kind → ⊥) → (k ≡ open_kind → ⊥) → (k ≡ end_kind → ⊥)
        → found (Keyword (at + 1) body) next ≡ whole_at bytes at k
    unfolding whole_at
    keyword_whole is a b c d e =
        simp (ne_eqb k header_kind a, ne_eqb k phrase_kind b, ne_eqb k bounded_kind c, ne_eqb k open_kind d, ne_eqb k end_kind e) (ap₂ found (ap (Keyword (at + 1)) is) there)
