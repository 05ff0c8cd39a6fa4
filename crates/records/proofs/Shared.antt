-- Reading the records again meets their keywords one after the other, and the most that is shared with them is the larger of
-- what was shared so far and what the rest shares. Assumes nothing.
use mathlib.Core.Path.{◌≡◌, refl, ap, ◌∙◌}
use mathlib.Core.Bool.{Bool, true, false, not, cond}
use mathlib.Core.List.{List, [], ◌∷◌, ◌++◌}
use Prim.Native.Nat.{ℕ, zero, suc, ◌+◌, ◌≤◌, ◌<◌, max}
use native.Mathlib.Omega.{arith}
use lib.Dec.{leb, ltb, eqb}
use lib.ListN.{length, drop, get_or, length-take, length-drop}
use borrow.Author.Tests.{leb-false, ltb-false, lt-ltb, le-ltb}
use Rattle.meaning.specs.Matching.{bytes_after}
use Rattle.format.specs.Prefixes.{common_prefix, most_shared}
use Rattle.format.specs.Refusals.{cut, kind}
use Rattle.format.specs.Written.{header_kind, phrase_kind, bounded_kind, open_kind, end_kind}
use Rattle.format.specs.Faults.{body_length}
use Rattle.format.proofs.Shared.{shared_short}
use Rattle.std.proofs.Common.{Result, Ok, Err}
use Rattle.records.specs.declared.records.Cursor.{Cursor}
use Rattle.records.specs.declared.records.Record.{Record}
use Rattle.records.specs.declared.records.Record.TheVariants.{Header, Phrase, Bounded, Open, Keyword, End}
use Rattle.records.specs.declared.records.Found.{Found}
use Rattle.records.specs.declared.refusals.Refused.{Refused}
use Rattle.records.specs.Kinds.{known}
use Rattle.records.specs.Records.{whole, nothing, body_at, record_for, whole_at, found_as, read_at}
use Rattle.records.specs.Readers.{past_of}
use Rattle.records.specs.Prefixes.{Lies, Inside, keyword_of, keyword_in, keywords_from, keywords_before}

-- ── Where the next record is ──

-- The next record lies ahead, whatever end is set, and the keyword lies in the book.
record Ahead (bytes : List ℕ) (at : ℕ) (found : Result Found Refused) : Type 0 where
  next : (end : ℕ) → at < end → at < past_of found end
  inside : Inside bytes found

either : (P : Record → Type 0) (test : Bool) {x y : Record} → P x → P y → P (cond test x y)
either P true p q = p
either P false p q = q

-- A whole record ends behind its body.
pub whole_next : (bytes : List ℕ) (at k : ℕ) → (whole_at bytes at k).next.at ≡ at + (1 + body_length k)
unfolding whole_at
whole_next bytes at k = refl

module _ (bytes : List ℕ) (at : ℕ) where
  record_lies : (k : ℕ) (body : List ℕ) → at + (1 + body_length k) ≤ length bytes → Lies bytes (record_for at k body)
  unfolding record_for
  record_lies k body long =
      either (Lies bytes) (eqb k header_kind) tt
      (either (Lies bytes) (eqb k phrase_kind) tt
      (either (Lies bytes) (eqb k bounded_kind) tt (either (Lies bytes) (eqb k open_kind) tt (either (Lies bytes) (eqb k end_kind) tt (omega arith)))))

  read_ahead : Ahead bytes at (read_at bytes at)
  unfolding read_at
  read_ahead = go (leb (length bytes) at) refl (known k) (ltb (length (drop (at + 1) bytes)) (body_length k)) refl
    where
      k : ℕ
      k = get_or bytes at 0

      long : leb (length bytes) at ≡ false → ltb (length (drop (at + 1) bytes)) (body_length k) ≡ false → at + (1 + body_length k) ≤ length bytes
      long p q = omega (arith, leb-false (length bytes) at p, ltb-false (length (drop (at + 1) bytes)) (body_length k) q, length-drop (at + 1) bytes)

      go : (past : Bool) → leb (length bytes) at ≡ past → (is short : Bool) → ltb (length (drop (at + 1) bytes)) (body_length k) ≡ short
          → Ahead bytes at (found_as at (cond past (nothing cut (length bytes)) (cond (not is) (nothing kind at) (cond short (nothing cut at) (whole k (body_at bytes at k) (at + (1 + body_length k)))))))
      go true p is short q = record { next = λ end more. more; inside = tt }
      go false p false short q = record { next = λ end more. more; inside = tt }
      go false p true true q = record { next = λ end more. more; inside = tt }
      go false p true false q = record { next = λ end more. omega arith; inside = record_lies k (body_at bytes at k) (long p q) }

  pub read_inside : Inside bytes (read_at bytes at)
  read_inside = read_ahead.inside

  pub goes_ahead : (end : ℕ) {found : Result Found Refused} {next : ℕ} → found ≡ read_at bytes at → next ≡ past_of found end → at < end → at < next
  goes_ahead end is there more = rw (there, is) (read_ahead.next end more)

-- ── The most that is shared ──

shared_append : (vs ws : List (List ℕ)) (w : List ℕ) → most_shared (vs ++ ws) w ≡ max (most_shared vs w) (most_shared ws w)
unfolding most_shared
shared_append [] ws w = omega arith
shared_append (v ∷ vs) ws w = omega (arith, shared_append vs ws w)

-- A keyword shares what is common.
pub said_shared : (bytes w : List ℕ) {says : Record} {start count : ℕ} → says ≡ Keyword start count
    → {shared : ℕ} → shared ≡ common_prefix w (bytes_after start count bytes) → shared ≡ most_shared (keyword_of bytes says) w
unfolding most_shared keyword_of
said_shared bytes w is e = rw is (omega (arith, e))

pub keyword_shared : (bytes w : List ℕ) {found : Result Found Refused} {start count : ℕ} {next : Cursor} → found ≡ Ok (record { says = Keyword start count; next = next })
    → {shared : ℕ} → shared ≡ common_prefix w (bytes_after start count bytes) → shared ≡ most_shared (keyword_in bytes found) w
unfolding most_shared keyword_in
keyword_shared bytes w is e = rw is (omega (arith, e))

-- What is no keyword shares nothing.
pub other_shared : (bytes w : List ℕ) (says : Record) → ((start count : ℕ) → says ≡ Keyword start count → ⊥) → 0 ≡ most_shared (keyword_of bytes says) w
unfolding most_shared keyword_of
other_shared bytes w (Header edition) is = refl
other_shared bytes w (Phrase number rights) is = refl
other_shared bytes w (Bounded least most) is = refl
other_shared bytes w (Open least) is = refl
other_shared bytes w (Keyword start count) is = absurd (is start count refl)
other_shared bytes w (End count) is = refl

pub nothing_shared : (bytes w : List ℕ) (found : Result Found Refused)
    → ((start count : ℕ) (next : Cursor) → found ≡ Ok (record { says = Keyword start count; next = next }) → ⊥) → 0 ≡ most_shared (keyword_in bytes found) w
unfolding most_shared keyword_in
nothing_shared bytes w (Ok found) is =
    other_shared bytes w found.says (λ start count e. is start count found.next (ap {B = Result Found Refused} (λ (says : Record). Ok (record { says = says; next = found.next })) e))
nothing_shared bytes w (Err refused) is = refl

module _ (bytes : List ℕ) (end : ℕ) where
  pub more_records : (n at : ℕ) → at < end → keywords_from (suc n) bytes end at ≡ keyword_in bytes (read_at bytes at) ++ keywords_from n bytes end (past_of (read_at bytes at) end)
  unfolding keywords_from
  more_records n at more = rw (lt-ltb at end more)

  pub no_record : (n at : ℕ) → end ≤ at → keywords_from n bytes end at ≡ []
  unfolding keywords_from
  no_record zero at past = refl
  no_record (suc n) at past = rw (le-ltb at end past)

  -- The loop's invariant: the most that is shared is the larger of what was shared so far and what the records ahead share.
  pub record Sharing (w : List ℕ) (at most : ℕ) : Type 0 where
    pub fuel : ℕ
    pub enough : end ≤ fuel + at
    pub rest : max most (most_shared (keywords_from fuel bytes end at) w) ≡ most_shared (keywords_before bytes end) w

  module _ (w : List ℕ) where
    pub sharing_start : end ≤ length bytes → Sharing w 0 0
    unfolding keywords_before
    sharing_start inside = record { fuel = length bytes; enough = omega arith; rest = omega arith }

    pub sharing_done : (at most : ℕ) → Sharing w at most → end ≤ at → most ≡ most_shared (keywords_before bytes end) w
    unfolding most_shared
    sharing_done at most s past =
        let none : most_shared (keywords_from s.fuel bytes end at) w ≡ 0 = ap (λ (ws : List (List ℕ)). most_shared ws w) (no_record s.fuel at past) in
        omega (arith, s.rest)

    pub sharing_more : (at most : ℕ) → Sharing w at most → at < end → {found : Result Found Refused} → found ≡ read_at bytes at
        → {shared next larger : ℕ} → shared ≡ most_shared (keyword_in bytes found) w → next ≡ past_of found end → larger ≡ max most shared → Sharing w next larger
    sharing_more at most s more {found = found} is {shared = shared} own there larger = rw (there, larger) (go s.fuel s.enough s.rest)
      where
        ahead : at < past_of found end
        ahead = goes_ahead bytes at end is refl more

        step : (n : ℕ) → most_shared (keywords_from (suc n) bytes end at) w ≡ max (most_shared (keyword_in bytes found) w) (most_shared (keywords_from n bytes end (past_of found end)) w)
        step n = rw is (ap (λ (ws : List (List ℕ)). most_shared ws w) (more_records n at more)
            ∙ shared_append (keyword_in bytes (read_at bytes at)) (keywords_from n bytes end (past_of (read_at bytes at) end)) w)

        go : (n : ℕ) → end ≤ n + at → max most (most_shared (keywords_from n bytes end at) w) ≡ most_shared (keywords_before bytes end) w → Sharing w (past_of found end) (max most shared)
        go zero enough rest = absurd (omega arith)
        go (suc n) enough rest = record { fuel = n; enough = omega (arith, ahead); rest = omega (arith, own, step n) }

-- No keyword shares more bytes than it has.
pub shared_within : (bytes : List ℕ) (end x m : ℕ) → most_shared (keywords_before bytes end) (bytes_after x m bytes) ≤ m
unfolding bytes_after
shared_within bytes end x m = omega (arith, length-take m (drop x bytes), shared_short (keywords_before bytes end) (bytes_after x m bytes))
