-- Each store leaves what the numbering holds: a child adds its own string, label and number behind those of the others.
-- Assumes nothing.
use mathlib.Core.Path.{◌≡◌, refl, sym, ap, ◌∙◌}
use mathlib.Core.Logic.{◌⊎◌, inl, inr, ⊎_elim}
use mathlib.Core.List.{List, [], ◌∷◌, ◌++◌}
use Prim.Native.Nat.{ℕ, zero, suc, ◌+◌, ◌*◌, ◌≤◌, ◌<◌}
use native.Mathlib.Nat.{le-suc_iff}
use native.Mathlib.Omega.{arith}
use lib.ListN.{length, get_or, replicate, length-set, length-replicate, get_or-append}
use lib.Seq.{get_or_at, get_or-set_same, get_or-set_other}
use Rattle.meaning.specs.Matching.{bytes_after}
use Rattle.format.specs.Limits.{longest_keyword}
use Rattle.format.proofs.Lists.{length_further}
use Rattle.lent.proofs.Numbers.{length_with_number, number_byte_apart, number_apart, number_apart_byte, number_written}
use Rattle.numbering.specs.States.{last_byte}
use Rattle.tables.specs.Layout.{label_at, child_at, room_for_states}
use Rattle.tables.specs.Reads.{Whole, label_in, first_child_in}
use Rattle.survey.specs.declared.stretch.Stretch.{Stretch}
use Rattle.survey.specs.Stretches.{nowhere, bytes_of}
use Rattle.filling.specs.declared.turns.Start.{Start}
use Rattle.filling.specs.Keywords.{Inside}
use Rattle.filling.specs.Turns.{start, root, stretch_of, Progress, begun, numbered_child, state_stretch, with_first}

-- A string stands in the text, as the bytes of a stretch.
pub record Stands (text : List ℕ) (state : Stretch) (string : List ℕ) : Type 0 where
  pub is : bytes_of text state ≡ string
  pub inside : state.offset + state.count ≤ length text
  pub short : state.count ≤ longest_keyword

-- The numbering has not written a byte of the tables, once so many states have a number, and so many have had their turn.
abbrev pub Elsewhere : ℕ → ℕ → ℕ → Type 0
Elsewhere states turns k = (k ≤ label_at) ⊎ (((label_at + states ≤ k) × (k < child_at)) ⊎ (child_at + 2 * turns ≤ k))

all_root : (n v : ℕ) → get_or (replicate {A = Start} n root) v root ≡ root
all_root zero v = refl
all_root (suc n) zero = refl
all_root (suc n) (suc v) = all_root n v

-- No bytes from where a keyword begins lie in the text.
first_inside : (text : List ℕ) (words : List Stretch) → Inside text words → (get_or words 0 nowhere).offset + 0 ≤ length text
first_inside text [] inside = omega arith
first_inside text (word ∷ words) inside = omega (arith, inside.ends 0 (omega arith))

-- Numbered are the strings of a list; the first children of so many are written, each as it should be.
pub record Held (text : List ℕ) (words : List Stretch) (tables : List ℕ) (first : ℕ → ℕ) (turns : ℕ) (list : List (List ℕ)) (p : Progress) : Type 0 where
  pub states : p.states ≡ length list
  pub some : 0 < length list
  pub starts : length p.starts ≡ room_for_states
  pub whole : length p.tables ≡ length tables
  pub strings : (v : ℕ) → v < length list → Stands text (state_stretch words p v) (get_or list v [])
  pub labels : (v : ℕ) → 0 < v → v < length list → label_in p.tables v ≡ last_byte (get_or list v [])
  pub firsts : (j : ℕ) → j < turns → first_child_in p.tables j ≡ first j
  pub kept : (k : ℕ) → Elsewhere (length list) turns k → get_or p.tables k 0 ≡ get_or tables k 0

pub held_begun : (text : List ℕ) (words : List Stretch) (tables : List ℕ) (first : ℕ → ℕ) → Inside text words → Held text words tables first 0 ([] ∷ []) (begun tables)
unfolding bytes_after bytes_of state_stretch stretch_of
held_begun text words tables first inside = record {
  states = refl;
  some = omega arith;
  starts = length-replicate {A = Start} room_for_states root;
  whole = refl;
  strings = λ v l. let e : v ≡ 0 = omega arith in rw (all_root room_for_states v, e) (record { is = refl; inside = first_inside text words inside; short = omega arith });
  labels = λ v p l. absurd (omega arith);
  firsts = λ j l. absurd (omega arith);
  kept = λ k e. refl;
}

-- A number in a list with one element more is one of the list, or its length.
last_or_not : {A : Type 0} (list : List A) (x : A) (v : ℕ) → v < length (list ++ x ∷ []) → (v < length list) ⊎ (v ≡ length list)
last_or_not list x v l = ⊎_elim (λ (k : suc v ≤ length list). inl k) (λ (e : suc v ≡ suc (length list)). inr (omega arith)) (le-suc_iff.0 (omega (arith, length_further list x)))

module _ (text : List ℕ) (words : List Stretch) (tables : List ℕ) (first : ℕ → ℕ) (turns : ℕ) (list : List (List ℕ)) (p : Progress) (held : Held text words tables first turns list p) (size : Whole tables) where
  -- ── One child more ──

  module _ (room : length list < room_for_states) (keyword count byte : ℕ) (string : List ℕ) (stands : Stands text (stretch_of words (start keyword count)) string) (last : last_byte string ≡ byte) where
    abbrev next : Progress
    next = numbered_child count byte keyword p

    pub held_child : Held text words tables first turns (list ++ string ∷ []) next
    unfolding numbered_child state_stretch
    held_child = record {
      states = omega (arith, held.states, length_further list string);
      some = omega (arith, length_further list string);
      starts = length-set p.starts p.states (start keyword count) ∙ held.starts;
      whole = length-set p.tables (label_at + p.states) byte ∙ held.whole;
      strings = λ v l. ⊎_elim (old_string v) (new_string v) (last_or_not list string v l);
      labels = λ v k l. ⊎_elim (old_label v k) (new_label v) (last_or_not list string v l);
      firsts = λ j l. number_apart_byte 2 p.tables (label_at + p.states) byte (child_at + 2 * j) (inr (omega (arith, held.states))) ∙ held.firsts j l;
      kept = λ k e. get_or-set_other p.tables (label_at + p.states) k byte 0 (apart k e) ∙ held.kept k (earlier k e);
    }
      where
        old : (v : ℕ) → v < length list → get_or (list ++ string ∷ []) v [] ≡ get_or list v []
        old v l = get_or-append list (string ∷ []) [] v l

        new : (v : ℕ) → v ≡ length list → get_or (list ++ string ∷ []) v [] ≡ string
        new v e = get_or_at list string [] [] v (sym e)

        old_string : (v : ℕ) → v < length list → Stands text (state_stretch words next v) (get_or (list ++ string ∷ []) v [])
        old_string v l =
            let other : v ≡ p.states → ⊥ = λ e. omega (arith, held.states) in
            rw (get_or-set_other p.starts p.states v (start keyword count) root other, old v l) (held.strings v l)

        new_string : (v : ℕ) → v ≡ length list → Stands text (state_stretch words next v) (get_or (list ++ string ∷ []) v [])
        new_string v e =
            let here : v ≡ p.states = e ∙ sym held.states in
            rw (new v e, here, get_or-set_same p.starts p.states (start keyword count) root (omega (arith, held.starts, held.states))) stands

        old_label : (v : ℕ) → 0 < v → v < length list → label_in next.tables v ≡ last_byte (get_or (list ++ string ∷ []) v [])
        old_label v k l =
            get_or-set_other p.tables (label_at + p.states) (label_at + v) byte 0 (λ e. omega (arith, held.states))
            ∙ held.labels v k l ∙ ap last_byte (sym (old v l))

        new_label : (v : ℕ) → v ≡ length list → label_in next.tables v ≡ last_byte (get_or (list ++ string ∷ []) v [])
        new_label v e =
            let here : label_at + v ≡ label_at + p.states = omega (arith, held.states) in
            ap (λ k. get_or next.tables k 0) here
            ∙ get_or-set_same p.tables (label_at + p.states) byte 0 (omega (arith, held.whole, held.states))
            ∙ sym (ap last_byte (new v e) ∙ last)

        apart : (k : ℕ) → Elsewhere (length (list ++ string ∷ [])) turns k → k ≡ label_at + p.states → ⊥
        apart k (inl e) z = omega (arith, held.states, held.some)
        apart k (inr (inl e)) z = omega (arith, held.states, length_further list string)
        apart k (inr (inr e)) z = omega (arith, held.states)

        earlier : (k : ℕ) → Elsewhere (length (list ++ string ∷ [])) turns k → Elsewhere (length list) turns k
        earlier k (inl e) = inl e
        earlier k (inr (inl e)) = inr (inl (omega (arith, length_further list string), e.1))
        earlier k (inr (inr e)) = inr (inr e)

  -- ── One first child more ──

  module _ (room : length list ≤ room_for_states) (few : turns ≤ room_for_states) (is : p.states ≡ first turns) where
    pub held_first : Held text words tables first (suc turns) list (with_first turns p)
    unfolding with_first state_stretch
    held_first = record {
      states = held.states;
      some = held.some;
      starts = held.starts;
      whole = length_with_number 2 p.tables (child_at + 2 * turns) _ ∙ held.whole;
      strings = held.strings;
      labels = λ v k l. number_byte_apart 2 p.tables (child_at + 2 * turns) _ (label_at + v) (inl (omega arith)) ∙ held.labels v k l;
      firsts = λ j l. ⊎_elim
          (λ (k : suc j ≤ turns). number_apart 2 2 p.tables (child_at + 2 * turns) _ (child_at + 2 * j) (inl (omega arith)) ∙ held.firsts j k)
          (λ (e : suc j ≡ suc turns).
          let here : j ≡ turns = omega arith in
          rw here (number_written 2 p.tables (child_at + 2 * turns) _ (omega (arith, held.whole)) (omega (arith, held.states)) ∙ is))
          (le-suc_iff.0 l);
      kept = λ k e. number_byte_apart 2 p.tables (child_at + 2 * turns) _ k (apart k e) ∙ held.kept k (earlier k e);
    }
      where
        apart : (k : ℕ) → Elsewhere (length list) (suc turns) k → (k + 1 ≤ child_at + 2 * turns) ⊎ (child_at + 2 * turns + 2 ≤ k)
        apart k (inl e) = inl (omega arith)
        apart k (inr (inl e)) = inl (omega (arith, e.1))
        apart k (inr (inr e)) = inr (omega arith)

        earlier : (k : ℕ) → Elsewhere (length list) (suc turns) k → Elsewhere (length list) turns k
        earlier k (inl e) = inl e
        earlier k (inr (inl e)) = inr (inl e)
        earlier k (inr (inr e)) = inr (inr (omega arith))
