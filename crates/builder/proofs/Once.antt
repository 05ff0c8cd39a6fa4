-- No second answer and no second byte is right: each case of the answer says another number or offset, one judgement alone is true of
-- the bytes, and a layout, or zero, leaves no byte below the published size open. Assumes nothing.
use mathlib.Core.Path.{◌≡◌, refl, sym, ap, ap₂, ◌∙◌}
use mathlib.Core.Logic.{⊎_elim}
use mathlib.Core.List.{List}
use Prim.Native.Nat.{ℕ, ◌≤◌, ◌<◌}
use native.Mathlib.Omega.{arith}
use lib.ListN.{length, get_or}
use lib.Seq.{ext_get_or}
use Rattle.lent.specs.Numbers.{Bytes}
use Rattle.lent.proofs.Cases.{lt_or_le}
use Rattle.format.specs.Judged.{Judgement, accepted, refused}
use Rattle.format.proofs.Theorem.{judges_once}
use Rattle.format.proofs.Answers.{number_range, number_once}
use Rattle.records.specs.Refusals.{reason_of, refusal_for}
use Rattle.records.proofs.Names.{reason_back}
use Rattle.tables.specs.Layout.{tables_size, tables_layout}
use Rattle.tables.proofs.Once.{laid_once, tables_tiled}
use Rattle.std.specs.Prelude.{Ok, Err}
use Rattle.builder.specs.declared.answers.BuildError.{BuildError}
use Rattle.builder.specs.declared.answers.BuildError.TheVariants.{TooSmall, Refused}
use Rattle.builder.specs.Answers.{Built, Said, said_by, said_of}
use Rattle.builder.specs.Build.{Outcome, outcome, Holds, Judged, BuildMeant, BuiltRight}

-- ── Answers ──

-- A refusal of build never says 0.
pub refused_number : (why : BuildError) → (said_by (Err why)).number ≡ 0 → ⊥
unfolding said_by
refused_number TooSmall e = omega arith
refused_number (Refused told) e = omega (arith, number_range (reason_of told.why))

-- No two answers of build say the same number and offset.
pub said_once : (a b : Built) → said_by a ≡ said_by b → a ≡ b
unfolding said_by
said_once (Ok n) (Ok m) e = ap Ok (ap (λ (s : Said). s.offset) e)
said_once (Ok n) (Err TooSmall) e = absurd (omega (arith, ap (λ (s : Said). s.number) e))
said_once (Ok n) (Err (Refused told)) e = absurd (omega (arith, ap (λ (s : Said). s.number) e, number_range (reason_of told.why)))
said_once (Err TooSmall) (Ok m) e = absurd (omega (arith, ap (λ (s : Said). s.number) e))
said_once (Err TooSmall) (Err TooSmall) e = refl
said_once (Err TooSmall) (Err (Refused told)) e = absurd (omega (arith, ap (λ (s : Said). s.number) e, number_range (reason_of told.why)))
said_once (Err (Refused told)) (Ok m) e = absurd (omega (arith, ap (λ (s : Said). s.number) e, number_range (reason_of told.why)))
said_once (Err (Refused told)) (Err TooSmall) e = absurd (omega (arith, ap (λ (s : Said). s.number) e, number_range (reason_of told.why)))
said_once (Err (Refused told)) (Err (Refused other)) e =
    let same : reason_of told.why ≡ reason_of other.why = number_once (reason_of told.why) (reason_of other.why) (ap (λ (s : Said). s.number) e) in
    ap₂ {C = Built} (λ why at. Err (Refused (record { why = why; at = at }))) (sym (reason_back told.why) ∙ ap refusal_for same ∙ reason_back other.why) (ap (λ (s : Said). s.offset) e)

-- ── Memory ──

-- What a judgement leads to leaves no byte below the published size open.
holds_once : (j : Judgement) (s t : List ℕ) → Bytes s → Bytes t → Holds j s → Holds j t → (k : ℕ) → k < tables_size → get_or s k 0 ≡ get_or t k 0
unfolding Holds
holds_once (accepted book offset) s t p q h i k l = laid_once s t p q (tables_layout book) tables_size (tables_tiled book) h i k (omega arith) l
holds_once (refused why offset) s t p q h i k l = h k (omega arith) l ∙ sym (i k (omega arith) l)

module _ (bytes before : List ℕ) (a b : Built) (s t : List ℕ) (whole : Bytes s) (also : Bytes t) where
  judged_once : Judged bytes before a s → Judged bytes before b t → (a ≡ b) × (s ≡ t)
  judged_once m n = (
    said_once a b (m.says ∙ ap said_of same ∙ sym n.says),
    ext_get_or 0 s t (m.long ∙ sym n.long) (λ k l. ⊎_elim
        (λ (below : k < tables_size). holds_once n.judgement s t whole also (rw same at m.holds) n.holds k below)
        (λ (past : tables_size ≤ k). m.past k past ∙ sym (n.past k past))
        (lt_or_le k tables_size)),
  )
    where
      same : m.judgement ≡ n.judgement
      same = judges_once bytes m.judgement n.judgement m.true_of n.true_of

  -- By the meaning alone there is one answer, and one memory of bytes, for anything that is lent.
  pub meant_once : BuildMeant bytes before a s → BuildMeant bytes before b t → (a ≡ b) × (s ≡ t)
  meant_once m n = ⊎_elim
      (λ (small : length before < tables_size).
      let left = m.small small in
      let right = n.small small in
      (said_once a b (left.says ∙ sym right.says), left.same ∙ sym right.same))
      (λ (large : tables_size ≤ length before). judged_once (m.large large) (n.large large))
      (lt_or_le (length before) tables_size)

-- By the exact reading there is one answer and one memory, whatever is lent.
pub exact_once : (bytes before : List ℕ) (a b : Built) (s t : List ℕ) → BuiltRight bytes before a s → BuiltRight bytes before b t → (a ≡ b) × (s ≡ t)
exact_once bytes before a b s t p q =
    let same : outcome a s ≡ outcome b t = p.exact ∙ sym q.exact in
    (ap (λ (o : Outcome). o.answer) same, ap (λ (o : Outcome). o.tables) same)
