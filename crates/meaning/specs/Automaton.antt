-- The automaton: its states, the state after some bytes, failures, and the failure steps that document 01 counts.
-- Each statement stands beside a definition that can be run. Assumes nothing: these are definitions.
use Rattle.std.specs.Prelude.{◌≡◌, ◌⊎◌, Bool, true, false, not, cond, ◌&&◌, ◌||◌, ℕ, zero, suc, ◌+◌, ◌≤◌, ◌<◌, ltb, eqb, length, take, get_or}
use Rattle.std.proofs.Math.Bool.{So}
use mathlib.Core.List.{List, [], ◌∷◌, ◌++◌, Memᴰ}
use Rattle.std.proofs.Math.Option.{Option, none, some}
use Rattle.meaning.specs.Books.{Book, keywords}

-- ── Prefixes and suffixes ──

-- Some bytes are a prefix of others: these are they, and then a rest.
pub record Prefix (start whole : List ℕ) : Type 0 where
  pub rest : List ℕ
  pub split : start ++ rest ≡ whole

-- Some bytes are a suffix of others: these are some bytes before, and then they.
pub record Suffix (end whole : List ℕ) : Type 0 where
  pub before : List ℕ
  pub split : before ++ end ≡ whole

unfoldable pub prefix : List ℕ → List ℕ → Bool
prefix [] whole = true
prefix (x ∷ xs) [] = false
prefix (x ∷ xs) (y ∷ ys) = eqb x y && prefix xs ys

unfoldable pub nonempty : List ℕ → Bool
nonempty [] = false
nonempty (x ∷ xs) = true

-- A test holds of some element.
unfoldable pub some_of : {A : Type 0} → (A → Bool) → List A → Bool
some_of test [] = false
some_of test (x ∷ xs) = test x || some_of test xs

-- ── States ──

-- The states are the prefixes of all keywords, the empty one included.
pub record PrefixOfKeyword (book : Book) (bytes : List ℕ) : Type 0 where
  pub keyword : List ℕ
  pub listed : Memᴰ keyword (keywords book.phrases)
  pub starts : Prefix bytes keyword

unfoldable pub IsState : Book → List ℕ → Type 0
IsState book bytes = (bytes ≡ []) ⊎ PrefixOfKeyword book bytes

unfoldable pub is_state : Book → List ℕ → Bool
unfolding nonempty some_of prefix keywords
is_state book bytes = not (nonempty bytes) || some_of (prefix bytes) (keywords book.phrases)

-- What follows is said over any set of states, given by its test.

-- A set of states has the empty string and, with some bytes, every prefix of them. The prefixes of all keywords are such a set.
pub record PrefixClosed (state : List ℕ → Bool) : Type 0 where
  pub empty : So (state [])
  pub shorter : (start whole : List ℕ) → Prefix start whole → So (state whole) → So (state start)

-- After any bytes the state is the longest suffix of them that is a state.
pub record After (state : List ℕ → Bool) (bytes reached : List ℕ) : Type 0 where
  pub ends : Suffix reached bytes
  pub is : So (state reached)
  pub longest : (other : List ℕ) → Suffix other bytes → So (state other) → length other ≤ length reached

unfoldable pub after : (List ℕ → Bool) → List ℕ → List ℕ
after state [] = []
after state (x ∷ xs) = cond (state (x ∷ xs)) (x ∷ xs) (after state xs)

-- The failure of a nonempty state is its longest proper suffix that is a state.
pub record FailsTo (state : List ℕ → Bool) (from to : List ℕ) : Type 0 where
  pub ends : Suffix to from
  pub proper : length to < length from
  pub is : So (state to)
  pub longest : (other : List ℕ) → Suffix other from → length other < length from → So (state other) → length other ≤ length to

-- The empty state, which has no failure, is given itself.
unfoldable pub failure : (List ℕ → Bool) → List ℕ → List ℕ
unfolding after
failure state [] = []
failure state (x ∷ xs) = after state xs

-- ── Failure steps ──

-- The suffixes of some bytes, the longest first, the empty one included.
unfoldable pub suffixes : List ℕ → List (List ℕ)
suffixes [] = [] ∷ []
suffixes (x ∷ xs) = (x ∷ xs) ∷ suffixes xs

-- The first element of which a test holds.
unfoldable pub first : {A : Type 0} → (A → Bool) → List A → Option A
first test [] = none
first test (x ∷ xs) = cond (test x) (some x) (first test xs)

-- How many elements a test holds of.
unfoldable pub count : {A : Type 0} → (A → Bool) → List A → ℕ
count test [] = 0
count test (x ∷ xs) = cond (test x) 1 0 + count test xs

-- The longest suffix w of u such that w and wa are states.
pub record GoesOn (state : List ℕ → Bool) (u : List ℕ) (a : ℕ) (w : List ℕ) : Type 0 where
  pub ends : Suffix w u
  pub is : So (state w)
  pub onward : So (state (w ++ a ∷ []))
  pub longest : (other : List ℕ) → Suffix other u → So (state other) → So (state (other ++ a ∷ [])) → length other ≤ length w

-- The same as a search, the longest suffix first; none where there is no such w.
unfoldable pub goes_on : (List ℕ → Bool) → List ℕ → ℕ → Option (List ℕ)
unfolding suffixes first
goes_on state u a = first (λ w. state w && state (w ++ a ∷ [])) (suffixes u)

-- How many nonempty states are suffixes of some bytes: so many failures lead from a state to the empty one.
unfoldable pub depth : (List ℕ → Bool) → List ℕ → ℕ
unfolding suffixes count nonempty
depth state u = count (λ s. state s && nonempty s) (suffixes u)

-- The states that are suffixes of u and longer than w; where there is no w, the nonempty ones.
unfoldable pub passed : (List ℕ → Bool) → List ℕ → Option (List ℕ) → ℕ
unfolding suffixes count depth
passed state u (some w) = count (λ s. state s && ltb (length w) (length s)) (suffixes u)
passed state u none = depth state u

-- The failure steps for one byte a, from the state u.
unfoldable pub steps_for : (List ℕ → Bool) → List ℕ → ℕ → ℕ
unfolding goes_on passed
steps_for state u a = passed state u (goes_on state u a)

-- The failure steps for the byte that stands after the first n bytes of a letter.
unfoldable pub steps_at : (List ℕ → Bool) → List ℕ → ℕ → ℕ
unfolding after steps_for
steps_at state letter n = steps_for state (after state (take n letter)) (get_or letter n 0)

-- The failure steps for the first n bytes of a letter.
unfoldable pub steps_up_to : (List ℕ → Bool) → List ℕ → ℕ → ℕ
unfolding steps_at
steps_up_to state letter zero = 0
steps_up_to state letter (suc n) = steps_up_to state letter n + steps_at state letter n

-- The failure steps for a whole letter.
unfoldable pub steps : Book → List ℕ → ℕ
unfolding is_state steps_up_to
steps book letter = steps_up_to (is_state book) letter (length letter)

-- ── What bounds the steps ──

-- Some bytes without the last one; the empty string, which has none, is given itself.
unfoldable pub parent : List ℕ → List ℕ
parent [] = []
parent (x ∷ []) = []
parent (x ∷ y ∷ u) = x ∷ parent (y ∷ u)
