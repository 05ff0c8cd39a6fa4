-- What is found at an offset of any bytes is a gap or not, and a keyword of a known kind is short. Assumes nothing.
use mathlib.Core.Path.{◌≡◌, refl}
use mathlib.Core.Logic.{◌⊎◌, inl, inr}
use mathlib.Core.Bool.{Bool, true, false, So, not, cond}
use mathlib.Core.List.{List}
use Prim.Native.Nat.{ℕ, ◌+◌, ◌≤◌}
use native.Mathlib.Omega.{arith}
use lib.Dec.{leb, ltb, eqb}
use lib.ListN.{length, drop, get_or}
use Rattle.format.specs.Refusals.{cut, kind}
use Rattle.format.specs.Limits.{longest_keyword}
use Rattle.format.specs.Written.{header_kind, phrase_kind, bounded_kind, open_kind, end_kind}
use Rattle.format.specs.Faults.{is_keyword, body_length}
use Rattle.format.proofs.FirstFault.{keyword_range, keyword_length}
use Rattle.std.proofs.Common.{Result, Ok, Err}
use Rattle.records.specs.declared.refusals.Refused.{Refused}
use Rattle.records.specs.declared.records.Record.{Record}
use Rattle.records.specs.declared.records.Record.TheVariants.{Header, Phrase, Bounded, Open, Keyword, End}
use Rattle.records.specs.declared.records.Found.{Found}
use Rattle.records.specs.Records.{whole, nothing, body_at, record_for, found_as, read_at}
use Rattle.records.specs.Kinds.{known}
use Rattle.survey.specs.Turns.{is_gap}

-- ── Gaps ──

-- What is bounded or open is a gap,
pub a_gap : (says : Record) → ((least : ℕ) × (most : ℕ) × (says ≡ Bounded least most)) ⊎ ((least : ℕ) × (says ≡ Open least)) → true ≡ is_gap says
a_gap says (inl bounded) = rw bounded.2 refl
a_gap says (inr from) = rw from.1 refl

-- and what is neither is none.
pub no_gap : (says : Record) → ((least most : ℕ) → says ≡ Bounded least most → ⊥) → ((least : ℕ) → says ≡ Open least → ⊥) → false ≡ is_gap says
no_gap (Header edition) not_bounded not_open = refl
no_gap (Phrase number rights) not_bounded not_open = refl
no_gap (Bounded least most) not_bounded not_open = absurd (not_bounded least most refl)
no_gap (Open least) not_bounded not_open = absurd (not_open least refl)
no_gap (Keyword start count) not_bounded not_open = refl
no_gap (End count) not_bounded not_open = refl

-- ── Keywords ──

-- A keyword that is found has at most 32 bytes.
abbrev pub ShortRecord : Record → Type 0
ShortRecord (Header edition) = Unit {0}
ShortRecord (Phrase number rights) = Unit {0}
ShortRecord (Bounded least most) = Unit {0}
ShortRecord (Open least) = Unit {0}
ShortRecord (Keyword start count) = count ≤ longest_keyword
ShortRecord (End count) = Unit {0}

abbrev pub Short : Result Found Refused → Type 0
Short (Ok found) = ShortRecord found.says
Short (Err refused) = Unit {0}

unless : (P : Record → Type 0) (test : Bool) {x y : Record} → P x → (test ≡ false → P y) → P (cond test x y)
unless P true p q = p
unless P false p q = q refl

module _ (bytes : List ℕ) (at : ℕ) where
  record_short : (k : ℕ) (body : List ℕ) → So (known k) → ShortRecord (record_for at k body)
  unfolding record_for known
  record_short k body is =
      unless ShortRecord (eqb k header_kind) tt
      (λ a. unless ShortRecord (eqb k phrase_kind) tt
      (λ b. unless ShortRecord (eqb k bounded_kind) tt
      (λ c. unless ShortRecord (eqb k open_kind) tt
      (λ d. unless ShortRecord (eqb k end_kind) tt
      (λ e. let word : So (is_keyword k) = simp (a, b, c, d, e) at is in omega (arith, keyword_length k word, keyword_range k word))))))

  pub read_short : Short (read_at bytes at)
  unfolding read_at
  read_short = go (leb (length bytes) at) (known k) refl (ltb (length (drop (at + 1) bytes)) (body_length k))
    where
      k : ℕ
      k = get_or bytes at 0

      go : (past is : Bool) → known k ≡ is → (cuts : Bool)
          → Short (found_as at (cond past (nothing cut (length bytes)) (cond (not is) (nothing kind at) (cond cuts (nothing cut at) (whole k (body_at bytes at k) (at + (1 + body_length k)))))))
      go true is h cuts = tt
      go false false h cuts = tt
      go false true h true = tt
      go false true h false = record_short k (body_at bytes at k) h
