-- A record that was written is read: what is found at its offset is what was written, and behind it stands the rest. Assumes nothing.
use mathlib.Core.Path.{◌≡◌, refl, sym, ap, ◌∙◌}
use mathlib.Core.Bool.{So}
use mathlib.Core.List.{List, [], ◌∷◌, ◌++◌}
use Prim.Native.Nat.{ℕ, ◌+◌, ◌-◌, ◌<◌}
use native.Mathlib.Omega.{arith}
use lib.ListN.{length, take, drop, get_or, length-drop, length-append}
use lib.Seq.{drop-drop, get_or-drop, take_at, drop_at}
use Rattle.meaning.specs.Books.{Gap, bounded, open_from, Phrase}
use Rattle.meaning.specs.Matching.{bytes_after}
use Rattle.format.specs.Limits.{Between, longest_keyword, the_edition}
use Rattle.format.specs.Written.{header_kind, phrase_kind, bounded_kind, open_kind, end_kind, keyword_base, two_bytes, written_header, written_name, written_gap, written_keyword, written_end}
use Rattle.format.specs.Faults.{body_length, two, is_keyword}
use Rattle.format.proofs.FirstFault.{keyword_is, keyword_only, keyword_length}
use Rattle.format.proofs.Records.{two_read}
use Rattle.std.proofs.Common.{Ok}
use Rattle.records.specs.declared.records.Record.{Record}
use Rattle.records.specs.declared.records.Record.TheVariants as says
use Rattle.records.specs.Kinds.{known}
use Rattle.records.specs.Records.{cursor_at, body_at, record_for, whole_at, read_at}
use Rattle.records.proofs.Standing.{read_whole}
use Rattle.counters.specs.Counters.{number_of}
use Rattle.survey.specs.Stretches.{stretch, bytes_of}
use Rattle.survey.specs.Meant.{Located}

-- What is found at an offset, and the offset behind it, where the rest of the book stands.
pub record Reads (bytes : List ℕ) (at : ℕ) (told : Record) (rest : List ℕ) : Type 0 where
  pub more : at < length bytes
  pub next : ℕ
  pub finds : read_at bytes at ≡ Ok (record { says = told; next = cursor_at next })
  pub behind : drop next bytes ≡ rest

module _ (bytes : List ℕ) (at k : ℕ) (body rest : List ℕ) (here : drop at bytes ≡ k ∷ (body ++ rest)) where
  inside : at < length bytes
  inside = omega (arith, ap length here, length-drop at bytes)

  kind_here : get_or bytes at 0 ≡ k
  kind_here =
      let same : at ≡ at + 0 = omega arith in
      ap (λ (i : ℕ). get_or bytes i 0) same ∙ sym (get_or-drop at bytes 0 0) ∙ ap (λ (l : List ℕ). get_or l 0 0) here

  behind_kind : drop (at + 1) bytes ≡ body ++ rest
  behind_kind = sym (drop-drop 1 at bytes) ∙ ap (drop 1) here

  module _ (is : So (known k)) (long : length body ≡ body_length k) where
    -- A record of a known kind with a body of its length.
    record_reads : (told : Record) → record_for at k body ≡ told → Reads bytes at told rest
    unfolding whole_at body_at
    record_reads told tells = record {
      more = inside;
      next = at + (1 + body_length k);
      finds =
          sym (read_whole bytes at inside (rw kind_here is) (rw kind_here (rw behind_kind (omega (arith, length-append body rest)))))
          ∙ ap (λ (kind : ℕ). Ok (whole_at bytes at kind)) kind_here
          ∙ ap (λ (says : Record). Ok (record { says = says; next = cursor_at (at + (1 + body_length k)) }))
          (ap (record_for at k) (ap (take (body_length k)) behind_kind ∙ take_at body rest (body_length k) long) ∙ tells);
      behind =
          let same : at + (1 + body_length k) ≡ at + 1 + body_length k = omega arith in
          ap (λ (i : ℕ). drop i bytes) same ∙ sym (drop-drop (body_length k) (at + 1) bytes) ∙ ap (drop (body_length k)) behind_kind ∙ drop_at body rest (body_length k) long;
    }

-- ── Each kind of record ──

-- How a gap is said.
abbrev pub gap_said : Gap → Record
gap_said (bounded least most) = says.Bounded least most
gap_said (open_from least) = says.Open least

-- Each record is found as what it says, and read past.
module _ (bytes : List ℕ) (at : ℕ) (rest : List ℕ) where
  pub header_reads : drop at bytes ≡ written_header ++ rest → Reads bytes at (says.Header the_edition) rest
  unfolding written_header known record_for body_length
  header_reads here = record_reads bytes at header_kind (the_edition ∷ []) rest here refl refl (says.Header the_edition) refl

  pub name_reads : (phrase : Phrase) → drop at bytes ≡ written_name phrase ++ rest
      → Reads bytes at (says.Phrase (number_of phrase.number) phrase.rights) rest
  unfolding written_name two_bytes known record_for body_length two
  name_reads phrase here =
      record_reads bytes at phrase_kind (two_bytes phrase.number ++ phrase.rights ∷ []) rest here refl refl (says.Phrase (number_of phrase.number) phrase.rights)
      (rw (two_read phrase.number))

  pub gap_reads : (gap : Gap) → drop at bytes ≡ written_gap gap ++ rest → Reads bytes at (gap_said gap) rest
  unfolding written_gap two_bytes known record_for body_length two
  gap_reads (bounded least most) here =
      record_reads bytes at bounded_kind (two_bytes least ++ two_bytes most) rest here refl refl (gap_said (bounded least most))
      (rw (two_read least, two_read most))
  gap_reads (open_from least) here =
      record_reads bytes at open_kind (two_bytes least) rest here refl refl (gap_said (open_from least)) (rw (two_read least))

  pub end_reads : (count : ℕ) → drop at bytes ≡ written_end count ++ rest → Reads bytes at (says.End count) rest
  unfolding written_end two_bytes known record_for body_length two
  end_reads count here = record_reads bytes at end_kind (two_bytes count) rest here refl refl (says.End count) (rw (two_read count))

  module _ (keyword : List ℕ) (long : Between 1 longest_keyword (length keyword)) (here : drop at bytes ≡ written_keyword keyword ++ rest) where
    pub keyword_reads : Reads bytes at (says.Keyword (at + 1) (length keyword)) rest
    unfolding written_keyword known record_for body_length
    keyword_reads =
        let k : ℕ = keyword_base + length keyword in
        let word : So (is_keyword k) = keyword_is (length keyword) long in
        let same : k - keyword_base ≡ length keyword = omega arith in
        record_reads bytes at k keyword rest here (simp (keyword_only k word, word)) (sym (keyword_length k word ∙ same)) (says.Keyword (at + 1) (length keyword))
        (simp (keyword_only k word) (ap (λ (count : ℕ). says.Keyword (at + 1) count) same))

    -- The keyword stands behind its kind.
    pub keyword_located : Located bytes keyword (stretch (at + 1) (length keyword))
    unfolding bytes_of bytes_after written_keyword
    keyword_located = record {
      there = ap (take (length keyword)) (behind_kind bytes at (keyword_base + length keyword) keyword rest here) ∙ take_at keyword rest (length keyword) refl;
      inside = omega (arith, length-drop at bytes, ap length here, length-append keyword rest);
      long = refl;
      short = long.1;
    }
