-- What holds of each element of two lists holds of each of both together, and of each of a part. Assumes nothing.
use mathlib.Core.Path.{◌≡◌, refl, ap}
use mathlib.Core.Logic.{◌⊎◌, inl, inr, ⊎_elim}
use mathlib.Core.List.{List, [], ◌∷◌, ◌++◌}
use Prim.Native.Nat.{ℕ, zero, suc, ◌+◌}
use lib.ListN.{length, take, drop, length-append}
use Rattle.format.specs.Limits.{All}

-- A further element is one more.
pub length_further : {A : Type 0} (xs : List A) (x : A) → length (xs ++ x ∷ []) ≡ length xs + 1
length_further xs x = length-append xs (x ∷ [])

-- A list is empty or ends with an element.
pub empty_or_ends : {A : Type 0} (xs : List A) → (xs ≡ []) ⊎ ((front : List A) × (final : A) × (xs ≡ front ++ final ∷ []))
empty_or_ends [] = inl refl
empty_or_ends {A} (x ∷ xs) = ⊎_elim
    (λ (e : xs ≡ []). inr ([], x, ap {B = List A} (λ l. x ∷ l) e))
    (λ r. inr (x ∷ r.0, r.1, ap {B = List A} (λ l. x ∷ l) r.2))
    (empty_or_ends xs)

module _ {A : Type 0} (P : A → Type 0) where
  pub all_append : (xs ys : List A) → All P xs → All P ys → All P (xs ++ ys)
  unfolding All
  all_append [] ys h k = k
  all_append (x ∷ xs) ys h k = (h.0, all_append xs ys h.1 k)

  pub all_left : (xs ys : List A) → All P (xs ++ ys) → All P xs
  unfolding All
  all_left [] ys h = tt
  all_left (x ∷ xs) ys h = (h.0, all_left xs ys h.1)

  pub all_right : (xs ys : List A) → All P (xs ++ ys) → All P ys
  unfolding All
  all_right [] ys h = h
  all_right (x ∷ xs) ys h = all_right xs ys h.1

  pub all_take : (n : ℕ) (xs : List A) → All P xs → All P (take n xs)
  unfolding All
  all_take zero xs h = tt
  all_take (suc n) [] h = tt
  all_take (suc n) (x ∷ xs) h = (h.0, all_take n xs h.1)

  pub all_drop : (n : ℕ) (xs : List A) → All P xs → All P (drop n xs)
  unfolding All
  all_drop zero xs h = h
  all_drop (suc n) [] h = tt
  all_drop (suc n) (x ∷ xs) h = all_drop n xs h.1

-- A property that another implies holds of each element as that does.
pub all_so : {A : Type 0} (P Q : A → Type 0) → ((x : A) → P x → Q x) → (xs : List A) → All P xs → All Q xs
unfolding All
all_so P Q f [] h = tt
all_so P Q f (x ∷ xs) h = (f x h.0, all_so P Q f xs h.1)
