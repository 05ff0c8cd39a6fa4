-- Something is noted of a byte exactly when a keyword goes on by it, and a keyword goes on by a byte exactly when the state and
-- that byte are a prefix of it. Assumes nothing.
use mathlib.Core.Path.{◌≡◌, refl, sym, ap, ◌∙◌}
use mathlib.Core.Logic.{◌⊎◌, inl, inr, ⊎_elim}
use mathlib.Core.Bool.{Bool, true, false, So, false≢true}
use mathlib.Core.List.Memᴰ
use mathlib.Core.List.{List, [], ◌∷◌, ◌++◌, append_assoc, Memᴰ}
use Prim.Native.Nat.{ℕ, zero, suc, ◌+◌, ◌≤◌, ◌<◌}
use native.Mathlib.Omega.{arith}
use lib.Dec.{ltb}
use lib.ListN.{length, get_or, take, drop, replicate, length-set, length-replicate, length-append, take-append-drop}
use lib.Seq.{take_at, get_or_at, get_or-set_same, get_or-set_other}
use borrow.Author.Tests.{lt-ltb}
use Rattle.std.specs.Prelude.{Option, Some, None}
use Rattle.meaning.specs.Matching.{bytes_after, same}
use Rattle.meaning.specs.Automaton.{Prefix}
use Rattle.meaning.proofs.Truth.{both, and_right}
use Rattle.meaning.proofs.Tests.{same_iff}
use Rattle.lent.specs.Numbers.{Bytes}
use Rattle.lent.proofs.Cases.{eq_or_ne}
use Rattle.numbering.specs.States.{byte_values}
use Rattle.survey.specs.declared.stretch.Stretch.{Stretch}
use Rattle.survey.specs.Stretches.{nowhere, bytes_of}
use Rattle.filling.specs.Keywords.{keyword_in, keywords_in, Inside}
use Rattle.filling.specs.Onward.{goes_on, with_keyword, onward_from}
use Rattle.filling.proofs.Stretches.{length_after, after_further, after_take, after_byte}
use Rattle.filling.proofs.Noting.{goes_on_longer, noted, noted_not}

-- ── The keywords ──

pub keyword_listed : (text : List ℕ) (words : List Stretch) (q : ℕ) → q < length words → Memᴰ (keyword_in text words q) (keywords_in text words)
unfolding keyword_in keywords_in
keyword_listed text [] q l = absurd (omega arith)
keyword_listed text (word ∷ words) zero l = Memᴰ.head refl
keyword_listed text (word ∷ words) (suc q) l = Memᴰ.tail (keyword_listed text words q (omega arith))

pub listed_keyword : (text : List ℕ) (words : List Stretch) (w : List ℕ) → Memᴰ w (keywords_in text words) → (q : ℕ) × (q < length words) × (w ≡ keyword_in text words q)
unfolding keyword_in keywords_in
listed_keyword text [] w m = absurd (Memᴰ.not-nil m)
listed_keyword text (word ∷ words) w m = ⊎_elim
    (λ e. (0, omega arith, e))
    (λ (k : Memᴰ w (keywords_in text words)). let r = listed_keyword text words w k in (suc r.0, omega (arith, r.1), r.2))
    (Memᴰ.cases_cons m)

none_noted : (n a : ℕ) → get_or (replicate {A = Option ℕ} n None) a None ≡ None
none_noted zero a = refl
none_noted (suc n) zero = refl
none_noted (suc n) (suc a) = none_noted n a

pub some_not : {q : ℕ} → Some q ≡ None → ⊥
some_not e = cc

module _ (text : List ℕ) (words : List Stretch) (state : Stretch) where
  abbrev keyword : ℕ → Stretch
  keyword q = get_or words q nowhere

  abbrev note_of : ℕ → ℕ → Option ℕ
  note_of n a = get_or (onward_from text words state n) a None

  -- Keyword q goes on from the state by the byte a.
  pub record Leads (q a : ℕ) : Type 0 where
    pub goes : So (goes_on text state (keyword q))
    pub by : get_or text ((keyword q).offset + state.count) 0 ≡ a

  -- ── What is noted ──

  length_onward : (n : ℕ) → length (onward_from text words state n) ≡ byte_values
  unfolding onward_from
  length_onward zero = length-replicate {A = Option ℕ} byte_values None
  length_onward (suc n) = go (goes_on text state (keyword n)) refl (length_onward n)
    where
      before : List (Option ℕ)
      before = onward_from text words state n

      go : (v : Bool) → goes_on text state (keyword n) ≡ v → length before ≡ byte_values → length (with_keyword text state n (keyword n) before) ≡ byte_values
      go true e h = rw (noted text state (keyword n) n before e) (length-set before (get_or text ((keyword n).offset + state.count) 0) (Some n) ∙ h)
      go false e h = rw (noted_not text state (keyword n) n before e) h

  leads_or_not : (q a : ℕ) → Leads q a ⊎ (Leads q a → ⊥)
  leads_or_not q a = go (goes_on text state (keyword q)) refl (eq_or_ne (get_or text ((keyword q).offset + state.count) 0) a)
    where
      go : (v : Bool) → goes_on text state (keyword q) ≡ v
          → (get_or text ((keyword q).offset + state.count) 0 ≡ a) ⊎ (get_or text ((keyword q).offset + state.count) 0 ≡ a → ⊥) → Leads q a ⊎ (Leads q a → ⊥)
      go true e (inl by) = inl (record { goes = e; by = by })
      go true e (inr not) = inr (λ l. not l.by)
      go false e by = inr (λ l. false≢true (sym e ∙ l.goes))

  note_other : (n a : ℕ) → (Leads n a → ⊥) → note_of (suc n) a ≡ note_of n a
  unfolding onward_from
  note_other n a not = go (goes_on text state (keyword n)) refl
    where
      before : List (Option ℕ)
      before = onward_from text words state n

      go : (v : Bool) → goes_on text state (keyword n) ≡ v → get_or (with_keyword text state n (keyword n) before) a None ≡ get_or before a None
      go true e =
          rw (noted text state (keyword n) n before e)
          (get_or-set_other before (get_or text ((keyword n).offset + state.count) 0) a (Some n) None (λ z. not (record { goes = e; by = sym z })))
      go false e = rw (noted_not text state (keyword n) n before e) refl

  module _ (small : Bytes text) where
    note_this : (n a : ℕ) → Leads n a → note_of (suc n) a ≡ Some n
    unfolding onward_from
    note_this n a l =
        let before : List (Option ℕ) = onward_from text words state n in
        let byte : ℕ = get_or text ((keyword n).offset + state.count) 0 in
        rw (noted text state (keyword n) n before l.goes, ← l.by)
        (get_or-set_same before byte (Some n) None (rw (length_onward n) (small ((keyword n).offset + state.count))))

    -- What is noted of a byte is a keyword that goes on by it.
    pub note_leads : (n a : ℕ) → (note_of n a ≡ None → ⊥) → (q : ℕ) × (q < n) × Leads q a × (note_of n a ≡ Some q)
    unfolding onward_from
    note_leads zero a some = absurd (some (none_noted byte_values a))
    note_leads (suc n) a some = ⊎_elim
        (λ (l : Leads n a). (n, omega arith, l, note_this n a l))
        (λ (not : Leads n a → ⊥).
        let same : note_of (suc n) a ≡ note_of n a = note_other n a not in
        let r = note_leads n a (λ z. some (same ∙ z)) in
        (r.0, omega (arith, r.1), r.2, same ∙ r.3))
        (leads_or_not n a)

    -- Something is noted of every byte by which a keyword goes on.
    pub leads_note : (n q a : ℕ) → q < n → Leads q a → note_of n a ≡ None → ⊥
    leads_note zero q a l h none = omega arith
    leads_note (suc n) q a l h none = ⊎_elim
        (λ (k : Leads n a). some_not (sym (note_this n a k) ∙ none))
        (λ (not : Leads n a → ⊥). ⊎_elim
        (λ (e : q ≡ n). not (rw e at h))
        (λ (other : q ≡ n → ⊥). leads_note n q a (omega (arith, other)) h (sym (note_other n a not) ∙ none))
        (eq_or_ne q n))
        (leads_or_not n a)

  -- ── What a keyword that goes on begins with ──

  module _ (inside : Inside text words) (room : state.offset + state.count ≤ length text) (q a : ℕ) (l : q < length words) where
    -- The keyword has the bytes of the state, then the byte, and then others.
    pub leads_begins : Leads q a → bytes_after (keyword q).offset (state.count + 1) text ≡ bytes_of text state ++ a ∷ []
    unfolding goes_on bytes_of
    leads_begins h =
        let longer : state.count < (keyword q).count = goes_on_longer text state (keyword q) h.goes in
        let agrees : bytes_after state.offset state.count text ≡ bytes_after (keyword q).offset state.count text
        = (same_iff (bytes_after state.offset state.count text) (bytes_after (keyword q).offset state.count text)).0
        (and_right (ltb state.count (keyword q).count) (same (bytes_after state.offset state.count text) (bytes_after (keyword q).offset state.count text)) h.goes) in
        after_further text (keyword q).offset state.count (omega (arith, inside.ends q l)) ∙ rw (agrees, h.by) refl

    pub leads_prefix : Leads q a → Prefix (bytes_of text state ++ a ∷ []) (keyword_in text words q)
    unfolding keyword_in bytes_of
    leads_prefix h =
        let longer : state.count < (keyword q).count = goes_on_longer text state (keyword q) h.goes in
        let whole : List ℕ = bytes_after (keyword q).offset (keyword q).count text in
        let start : take (state.count + 1) whole ≡ bytes_of text state ++ a ∷ [] = after_take text (keyword q).offset (state.count + 1) (keyword q).count (omega arith) ∙ leads_begins h in
        record { rest = drop (state.count + 1) whole; split = rw start at (take-append-drop (state.count + 1) whole) }

    pub prefix_leads : Prefix (bytes_of text state ++ a ∷ []) (keyword_in text words q) → Leads q a
    unfolding keyword_in goes_on bytes_of
    prefix_leads p =
        let u : List ℕ = bytes_after state.offset state.count text in
        let w : List ℕ = bytes_after (keyword q).offset (keyword q).count text in
        let count : length u ≡ state.count = length_after text state.offset state.count room in
        let split : u ++ a ∷ p.rest ≡ w = sym (append_assoc u (a ∷ []) p.rest) ∙ p.split in
        let longer : state.count < (keyword q).count
        = omega (arith, ap length split, length-append u (a ∷ p.rest), length_after text (keyword q).offset (keyword q).count (inside.ends q l)) in
        let start : u ≡ bytes_after (keyword q).offset state.count text
        = sym (take_at u (a ∷ p.rest) state.count count) ∙ ap (take state.count) split ∙ after_take text (keyword q).offset state.count (keyword q).count (omega arith) in
        record {
          goes = both (ltb state.count (keyword q).count) (same u (bytes_after (keyword q).offset state.count text)) (lt-ltb state.count (keyword q).count longer) ((same_iff u (bytes_after (keyword q).offset state.count text)).1 start);
          by =
              sym (after_byte text (keyword q).offset (keyword q).count state.count longer)
              ∙ ap (λ v. get_or v state.count 0) (sym split)
              ∙ get_or_at u a p.rest 0 state.count count;
        }
