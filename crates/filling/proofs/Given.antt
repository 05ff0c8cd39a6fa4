-- The keywords that are given are a book's, so a state and a byte are a state of the book exactly when a keyword goes on by the byte.
-- Assumes nothing.
use mathlib.Core.Path.{◌≡◌, refl, ap, ◌∙◌}
use mathlib.Core.Logic.{inr, ⊎_elim}
use mathlib.Core.Bool.{So}
use mathlib.Core.List.{List, [], ◌∷◌, ◌++◌, map, append-nil, Memᴰ}
use Prim.Native.Nat.{ℕ, suc, ◌+◌, ◌≤◌, ◌<◌}
use native.Mathlib.Omega.{arith}
use lib.ListN.{length}
use Rattle.meaning.specs.Books.{open_from, Piece, Book, keywords}
use Rattle.meaning.specs.Matching.{bytes_after}
use Rattle.meaning.specs.Automaton.{IsState, is_state, PrefixOfKeyword}
use Rattle.meaning.proofs.States.{is_state_iff}
use Rattle.format.specs.Limits.{All}
use Rattle.format.specs.Limits as limits
use Rattle.format.proofs.Lists.{all_take, all_drop}
use Rattle.lent.specs.Numbers.{Bytes}
use Rattle.numbering.proofs.Order.{length_snoc}
use Rattle.survey.specs.declared.stretch.Stretch.{Stretch}
use Rattle.survey.specs.Stretches.{bytes_of}
use Rattle.filling.specs.Keywords.{keyword_in, keywords_in, Gives}
use Rattle.filling.proofs.Leading.{keyword_listed, listed_keyword, Leads, leads_prefix, prefix_leads}

-- ── A book with given keywords ──

-- One phrase has them all: the states of a book are told by its keywords, whatever its phrases and gaps are.
abbrev pub book_with : List (List ℕ) → Book
book_with ws = record { phrases = record { number = 0; rights = 0; pieces = map (λ (w : List ℕ). record { gap = open_from 0; keyword = w }) ws } ∷ [] }

pub keywords_with : (ws : List (List ℕ)) → keywords (book_with ws).phrases ≡ ws
unfolding keywords
keywords_with ws = append-nil _ ∙ go ws
  where
    go : (ws : List (List ℕ)) → map (λ (piece : Piece). piece.keyword) (map (λ (w : List ℕ). record { gap = open_from 0; keyword = w }) ws) ≡ ws
    go [] = refl
    go (w ∷ ws) = ap {B = List (List ℕ)} (λ rest. w ∷ rest) (go ws)

-- ── Bytes ──

all_bytes : (s : List ℕ) → Bytes s → limits.Bytes s
unfolding All
all_bytes [] h = tt
all_bytes (x ∷ s) h = (h 0, all_bytes s (λ k. h (suc k)))

keywords_bytes : (text : List ℕ) (words : List Stretch) → Bytes text → All limits.Bytes (keywords_in text words)
unfolding All keywords_in bytes_of bytes_after
keywords_bytes text [] h = tt
keywords_bytes text (word ∷ words) h =
    (all_take (λ x. x < 256) word.count _ (all_drop (λ x. x < 256) word.offset text (all_bytes text h)), keywords_bytes text words h)

-- ── The states of the book ──

module _ (text : List ℕ) (words : List Stretch) (book : Book) (gives : Gives text words book) where
  pub given_bytes : All limits.Bytes (keywords book.phrases)
  given_bytes = rw gives.all at (keywords_bytes text words gives.bytes)

  -- A keyword that is given is one of the book's.
  pub given_listed : (q : ℕ) → q < length words → Memᴰ (keyword_in text words q) (keywords book.phrases)
  given_listed q l = rw gives.all at (keyword_listed text words q l)

  module _ (state : Stretch) (room : state.offset + state.count ≤ length text) (a : ℕ) where
    pub state_leads : So (is_state book (bytes_of text state ++ a ∷ [])) → (q : ℕ) × (q < length words) × Leads text words state q a
    unfolding IsState
    state_leads h = ⊎_elim
        (λ (e : bytes_of text state ++ a ∷ [] ≡ []). absurd (omega (arith, ap length e, length_snoc (bytes_of text state) a)))
        (λ (p : PrefixOfKeyword book (bytes_of text state ++ a ∷ [])).
        let r = listed_keyword text words p.keyword (rw gives.all p.listed) in
        (r.0, r.1, prefix_leads text words state gives.inside room r.0 a r.1 (rw r.2 at p.starts)))
        ((is_state_iff book (bytes_of text state ++ a ∷ [])).0 h)

    pub leads_state : (q : ℕ) → q < length words → Leads text words state q a → So (is_state book (bytes_of text state ++ a ∷ []))
    unfolding IsState
    leads_state q l h = (is_state_iff book (bytes_of text state ++ a ∷ [])).1
        (inr (record {
          keyword = keyword_in text words q;
          listed = given_listed q l;
          starts = leads_prefix text words state gives.inside room q a l h;
        }))
