-- The states of a book are the prefixes of its keywords: a prefix of a prefix is one, and a keyword is a prefix of itself.
-- Assumes nothing.
use mathlib.Core.Path.{◌≡◌, refl, sym, ◌∙◌}
use mathlib.Core.Logic.{◌↔◌, inl, inr, ⊎_elim}
use mathlib.Core.Bool.{Bool, So, false≢true}
use mathlib.Core.List.Memᴰ
use mathlib.Core.List.{List, [], ◌∷◌, ◌++◌, append_assoc, append-nil, Memᴰ}
use Prim.Native.Nat.{ℕ, ◌≤◌}
use lib.ListN.{length, take}
use Rattle.meaning.specs.Books.{Book, keywords}
use Rattle.meaning.specs.Matching.{Fills}
use Rattle.meaning.specs.Automaton.{Prefix, Suffix, some_of, IsState, is_state, PrefixClosed, after}
use Rattle.meaning.proofs.Truth.{or_cases, or_left, or_right}
use Rattle.meaning.proofs.Tests.{prefix_iff}
use Rattle.meaning.proofs.Suffixes.{suffix_trans}
use Rattle.meaning.proofs.After.{after_suffix, after_longest}

pub some_of_iff : {A : Type 0} (test : A → Bool) (l : List A) → So (some_of test l) ↔ ((x : A) × Memᴰ x l × So (test x))
unfolding some_of
some_of_iff test [] = (λ h. absurd (false≢true h), λ r. absurd (Memᴰ.not-nil r.1))
some_of_iff test (y ∷ l) = (
  λ h. ⊎_elim
      (λ p. (y, Memᴰ.head refl, p))
      (λ p. let r = (some_of_iff test l).0 p in (r.0, Memᴰ.tail r.1, r.2))
      (or_cases (test y) (some_of test l) h),
  λ r. ⊎_elim
      (λ (e : r.0 ≡ y). or_left (test y) (some_of test l) (rw e at r.2))
      (λ m. or_right (test y) (some_of test l) ((some_of_iff test l).1 (r.0, m, r.2)))
      (Memᴰ.cases_cons r.1),
)

prefix_trans : {s u v : List ℕ} → Prefix s u → Prefix u v → Prefix s v
prefix_trans {s} {u} {v} p q = record {
  rest = p.rest ++ q.rest;
  split = sym (append_assoc s p.rest q.rest) ∙ rw p.split q.split;
}

pub prefix_self : (u : List ℕ) → Prefix u u
prefix_self u = record { rest = []; split = append-nil u }

module _ (book : Book) where
  -- The test of a state says what a state is.
  pub is_state_iff : (u : List ℕ) → So (is_state book u) ↔ IsState book u
  unfolding is_state IsState
  is_state_iff [] = (λ h. inl refl, λ s. refl)
  is_state_iff (x ∷ u) = (
    λ h. let r = (some_of_iff _ (keywords book.phrases)).0 h in
        inr (record { keyword = r.0; listed = r.1; starts = (prefix_iff (x ∷ u) r.0).0 r.2 }),
    ⊎_elim
        (λ (e : x ∷ u ≡ []). cc)
        (λ p. (some_of_iff _ (keywords book.phrases)).1 (p.keyword, p.listed, (prefix_iff (x ∷ u) p.keyword).1 p.starts)),
  )

  -- So all that is said over any set of states holds of a book's states.
  pub is_state_closed : PrefixClosed (is_state book)
  unfolding is_state IsState
  is_state_closed = record {
    empty = refl;
    shorter = λ start whole p h. (is_state_iff start).1 (shorter start whole p ((is_state_iff whole).0 h));
  }
    where
      shorter : (start whole : List ℕ) → Prefix start whole → IsState book whole → IsState book start
      shorter [] whole p s = inl refl
      shorter (x ∷ start) whole p s = ⊎_elim
          (λ (e : whole ≡ []). let k : ◌≡◌ {A = List ℕ} (x ∷ (start ++ p.rest)) [] = p.split ∙ e in inl (cc))
          (λ q. inr (record { keyword = q.keyword; listed = q.listed; starts = prefix_trans p q.starts }))
          s

  -- A keyword is a state.
  pub keyword_state : (keyword : List ℕ) → Memᴰ keyword (keywords book.phrases) → So (is_state book keyword)
  unfolding IsState
  keyword_state keyword m = (is_state_iff keyword).1 (inr (record { keyword = keyword; listed = m; starts = prefix_self keyword }))

  -- A keyword fills the bytes that end at a place exactly when it is a suffix of the state there.
  pub keyword_ends : (keyword letter : List ℕ) (place : ℕ) → Memᴰ keyword (keywords book.phrases) → place ≤ length letter
      → Fills keyword letter place ↔ Suffix keyword (after (is_state book) (take place letter))
  keyword_ends keyword letter place m l = (
    λ f. let r : Suffix keyword (take place letter) = record { before = f.before; split = f.split } in
        after_longest (is_state book) (take place letter) keyword r (keyword_state keyword m),
    λ s. let r : Suffix keyword (take place letter) = suffix_trans s (after_suffix (is_state book) (take place letter)) in
        record { before = r.before; split = r.split; inside = l },
  )
