-- What the reader answers says what stands there: each field is spelt by the bytes that it was read from. Assumes nothing.
use mathlib.Core.Path.{◌≡◌, refl, sym, ap, ap₂, ◌∙◌}
use mathlib.Core.Logic.{⊎_elim}
use mathlib.Core.Bool.{Bool, true, false, So, not, cond, ◌||◌}
use mathlib.Core.List.{List, [], ◌∷◌, ◌++◌}
use Prim.Native.Nat.{ℕ, ◌+◌, ◌-◌, ◌≤◌, ◌<◌}
use native.Mathlib.Omega.{arith}
use lib.Dec.{leb, ltb, eqb}
use lib.ListN.{length, take, drop, get_or, length-drop}
use lib.Seq.{length-take-le}
use borrow.Author.Tests.{eqb-true, ltb-false, lt-leb, le-leb, le-ltb, lt-ltb}
use Rattle.format.specs.Refusals.{cut, kind}
use Rattle.format.specs.Limits.{Bytes}
use Rattle.format.specs.Written.{header_kind, phrase_kind, bounded_kind, open_kind, end_kind, keyword_base, two_bytes}
use Rattle.format.specs.Faults.{is_keyword, body_length, two}
use Rattle.format.proofs.Tests.{or_cases}
use Rattle.format.proofs.Lists.{all_take, all_drop}
use Rattle.format.proofs.Bodies.{keyword_range, keyword_only, keyword_length}
use Rattle.format.proofs.Records.{cells, one_by_one, two_written}
use Rattle.std.proofs.Common.{Result, Ok, Err}
use Rattle.records.specs.declared.kinds.Kind as code
use Rattle.records.specs.declared.records.Record.{Record}
use Rattle.records.specs.declared.records.Record.TheVariants.{Keyword}
use Rattle.records.specs.declared.records.Found.{Found}
use Rattle.records.specs.declared.refusals.Refusal.TheVariants.{Cut, Kind}
use Rattle.records.specs.declared.refusals.Refused.{Refused}
use Rattle.records.specs.Kinds.{known, byte_of}
use Rattle.records.specs.Records.{Standing, whole, nothing, body_at, standing_at, whole_of, standing_of, cursor_at, record_for, whole_at, found_as, read_at, ReadRight}

-- ── What is found, by what is tested ──

module _ (bytes : List ℕ) (at : ℕ) where
  pub read_past : length bytes ≤ at → Err (record { why = Cut; at = length bytes }) ≡ read_at bytes at
  unfolding read_at
  read_past past = rw (le-leb (length bytes) at past)

  module _ (inside : at < length bytes) where
    pub read_unknown : known (get_or bytes at 0) ≡ false → Err (record { why = Kind; at = at }) ≡ read_at bytes at
    unfolding read_at
    read_unknown h = rw (lt-leb (length bytes) at inside, h)

    module _ (h : So (known (get_or bytes at 0))) where
      pub read_cut : length (drop (at + 1) bytes) < body_length (get_or bytes at 0) → Err (record { why = Cut; at = at }) ≡ read_at bytes at
      unfolding read_at
      read_cut short = rw (lt-leb (length bytes) at inside, h, lt-ltb (length (drop (at + 1) bytes)) (body_length (get_or bytes at 0)) short)

      pub read_whole : body_length (get_or bytes at 0) ≤ length (drop (at + 1) bytes) → Ok (whole_at bytes at (get_or bytes at 0)) ≡ read_at bytes at
      unfolding read_at whole_at
      read_whole long = rw (lt-leb (length bytes) at inside, h, le-ltb (length (drop (at + 1) bytes)) (body_length (get_or bytes at 0)) long)

    -- The same for a byte that is read as a kind.
    module _ (kind : code.Kind) (is : (byte_of kind ≡ get_or bytes at 0) × (known (get_or bytes at 0) ≡ true)) {body : ℕ} (long : body ≡ body_length (byte_of kind)) where
      pub body_cut : length bytes - at ≤ body → Err (record { why = Cut; at = at }) ≡ read_at bytes at
      body_cut short = read_cut is.1 (rw (← is.0) (omega (arith, length-drop (at + 1) bytes)))

      pub body_whole : {says : Record} → says ≡ record_for at (byte_of kind) (body_at bytes at (byte_of kind)) → body < length bytes - at
          → Ok (record { says = says; next = cursor_at (at + 1 + body) }) ≡ read_at bytes at
      unfolding whole_at
      body_whole told more =
          let there : at + 1 + body ≡ at + (1 + body_length (byte_of kind)) = omega (arith, long) in
          rw (told, there, is.0) (read_whole is.1 (rw (← is.0) (omega (arith, length-drop (at + 1) bytes))))

-- ── The bytes of a body, from its fields ──

module _ (body : List ℕ) where
  header_spelt : length body ≡ 1 → get_or body 0 0 ∷ [] ≡ body
  unfolding cells
  header_spelt long = sym (one_by_one 1 body long)

  module _ (in_bytes : Bytes body) where
    phrase_spelt : length body ≡ 3 → two_bytes (two body 0) ++ get_or body 2 0 ∷ [] ≡ body
    unfolding cells
    phrase_spelt long = ap (λ (l : List ℕ). l ++ get_or body 2 0 ∷ []) (two_written body 0 in_bytes) ∙ sym (one_by_one 3 body long)

    bounded_spelt : length body ≡ 4 → two_bytes (two body 0) ++ two_bytes (two body 2) ≡ body
    unfolding cells
    bounded_spelt long = ap₂ (λ (l m : List ℕ). l ++ m) (two_written body 0 in_bytes) (two_written body 2 in_bytes) ∙ sym (one_by_one 4 body long)

    number_spelt : length body ≡ 2 → two_bytes (two body 0) ≡ body
    unfolding cells
    number_spelt long = two_written body 0 in_bytes ∙ sym (one_by_one 2 body long)

-- ── A whole record ──

module _ (bytes : List ℕ) (at : ℕ) (in_bytes : Bytes bytes) where
  -- The answer for a record of kind k says that kind, its body and the offset behind it.
  abbrev Said : ℕ → Type 0
  Said k = standing_of bytes (Ok (whole_at bytes at k)) ≡ whole k (body_at bytes at k) (at + (1 + body_length k))

  -- A kind that is none of the others says a keyword.
  keyword_record : (k : ℕ) → So (is_keyword k) → Keyword (at + 1) (body_length k) ≡ record_for at k (body_at bytes at k)
  unfolding record_for
  keyword_record k h = simp (keyword_only k h)

  module _ (k : ℕ) (long : body_length k ≤ length (drop (at + 1) bytes)) where
    body_long : length (body_at bytes at k) ≡ body_length k
    unfolding body_at
    body_long = length-take-le (body_length k) (drop (at + 1) bytes) long

    body_bytes : Bytes (body_at bytes at k)
    unfolding body_at
    body_bytes = all_take (λ x. x < 256) (body_length k) (drop (at + 1) bytes) (all_drop (λ x. x < 256) (at + 1) bytes in_bytes)

    header_said : k ≡ header_kind → Said k
    unfolding standing_of whole_at body_length
    header_said e = rw e (ap (λ (l : List ℕ). whole header_kind l (at + 2)) (header_spelt (body_at bytes at header_kind) (rw e at body_long)))

    phrase_said : k ≡ phrase_kind → Said k
    unfolding standing_of whole_at body_length
    phrase_said e = rw e (ap (λ (l : List ℕ). whole phrase_kind l (at + 4)) (phrase_spelt (body_at bytes at phrase_kind) (rw e at body_bytes) (rw e at body_long)))

    bounded_said : k ≡ bounded_kind → Said k
    unfolding standing_of whole_at body_length
    bounded_said e = rw e (ap (λ (l : List ℕ). whole bounded_kind l (at + 5)) (bounded_spelt (body_at bytes at bounded_kind) (rw e at body_bytes) (rw e at body_long)))

    open_said : k ≡ open_kind → Said k
    unfolding standing_of whole_at body_length
    open_said e = rw e (ap (λ (l : List ℕ). whole open_kind l (at + 3)) (number_spelt (body_at bytes at open_kind) (rw e at body_bytes) (rw e at body_long)))

    end_said : k ≡ end_kind → Said k
    unfolding standing_of whole_at body_length
    end_said e = rw e (ap (λ (l : List ℕ). whole end_kind l (at + 3)) (number_spelt (body_at bytes at end_kind) (rw e at body_bytes) (rw e at body_long)))

    keyword_said : So (is_keyword k) → Said k
    unfolding standing_of whole_at body_at
    keyword_said h =
        let says : keyword_base + body_length k ≡ k = omega (arith, keyword_length k h, keyword_range k h) in
        ap (λ (said : Record). whole_of bytes said (at + (1 + body_length k))) (sym (keyword_record k h))
        ∙ ap (λ (kind : ℕ). whole kind (take (body_length k) (drop (at + 1) bytes)) (at + (1 + body_length k))) says

    record_said : So (known k) → Said k
    unfolding known
    record_said h = ⊎_elim (λ e. header_said (eqb-true k header_kind e))
        (λ h. ⊎_elim (λ e. phrase_said (eqb-true k phrase_kind e))
        (λ h. ⊎_elim (λ e. bounded_said (eqb-true k bounded_kind e))
        (λ h. ⊎_elim (λ e. open_said (eqb-true k open_kind e))
        (λ h. ⊎_elim (λ e. end_said (eqb-true k end_kind e)) (λ h. keyword_said h)
        (or_cases (eqb k end_kind) (is_keyword k) h))
        (or_cases (eqb k open_kind) (eqb k end_kind || is_keyword k) h))
        (or_cases (eqb k bounded_kind) (eqb k open_kind || (eqb k end_kind || is_keyword k)) h))
        (or_cases (eqb k phrase_kind) (eqb k bounded_kind || (eqb k open_kind || (eqb k end_kind || is_keyword k))) h))
        (or_cases (eqb k header_kind) (eqb k phrase_kind || (eqb k bounded_kind || (eqb k open_kind || (eqb k end_kind || is_keyword k)))) h)

  -- ── Whatever stands there ──

  read_said : standing_of bytes (read_at bytes at) ≡ standing_at bytes at
  unfolding read_at standing_at found_as whole_at standing_of
  read_said = go (leb (length bytes) at) (known (get_or bytes at 0)) (ltb (length (drop (at + 1) bytes)) (body_length (get_or bytes at 0))) refl
      (λ h l. record_said (get_or bytes at 0) (ltb-false (length (drop (at + 1) bytes)) (body_length (get_or bytes at 0)) l) h)
    where
      go : (past is short : Bool) → ltb (length (drop (at + 1) bytes)) (body_length (get_or bytes at 0)) ≡ short
          → (So is → ltb (length (drop (at + 1) bytes)) (body_length (get_or bytes at 0)) ≡ false → Said (get_or bytes at 0))
          → (let stands : Standing = cond past (nothing cut (length bytes)) (cond (not is) (nothing kind at) (cond short (nothing cut at)
          (whole (get_or bytes at 0) (body_at bytes at (get_or bytes at 0)) (at + (1 + body_length (get_or bytes at 0)))))) in standing_of bytes (found_as at stands) ≡ stands)
      go true is short e h = refl
      go false false short e h = refl
      go false true true e h = refl
      go false true false e h = h refl e

  pub read_right : {found : Result Found Refused} → found ≡ read_at bytes at → ReadRight bytes at found
  read_right e = record { exact = e; meant = ap (standing_of bytes) e ∙ read_said }
