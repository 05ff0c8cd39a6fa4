-- The taking rule: a byte is taken only with free room for a report of every phrase, and no place has more, so the room never overflows.
-- Assumes nothing.
use mathlib.Core.Path.{◌≡◌, refl, ap}
use mathlib.Core.Logic.{inl, inr, ⊎_elim}
use mathlib.Core.Bool.{Bool, true, false, cond}
use mathlib.Core.List.{List, [], ◌∷◌, ◌++◌}
use Prim.Native.Nat.{ℕ, zero, suc, ◌-◌, ◌≤◌, ◌<◌}
use native.Mathlib.Omega.{arith}
use lib.Dec.{leb}
use lib.ListN.{length, take, length-append, length-map}
use borrow.Author.Tests.{leb-true, leb-false}
use Rattle.meaning.specs.Books.{Book}
use Rattle.meaning.specs.Matching.{matches}
use Rattle.meaning.specs.Reports.{Report, choose, reports_at}
use Rattle.meaning.specs.Calls.{reports_after, free_room, Takes, takes}

choose_fewer : {A : Type 0} (test : A → Bool) (l : List A) → length (choose test l) ≤ length l
unfolding choose
choose_fewer test [] = omega arith
choose_fewer test (x ∷ l) = go (test x) (choose_fewer test l)
  where
    go : (v : Bool) → length (choose test l) ≤ length l → length (cond v (x ∷ choose test l) (choose test l)) ≤ suc (length l)
    go true ih = omega arith
    go false ih = omega arith

module _ (book : Book) where
  -- A place has at most one report for each phrase.
  pub reports_at_few : (letter : List ℕ) (place : ℕ) → length (reports_at book letter place) ≤ length book.phrases
  unfolding reports_at
  reports_at_few letter place = simp length-map (choose_fewer (λ p. matches book p letter place) book.phrases)

  -- The reports of the byte a, when it is read after the bytes x.
  abbrev at_byte : List ℕ → ℕ → List Report
  at_byte x a = reports_at book (x ++ a ∷ []) (suc (length x))

  -- One byte after the other, the free room shrinks by the reports of each.
  free_room_nil : (x : List ℕ) (room : ℕ) → free_room book x [] room ≡ room
  unfolding free_room
  free_room_nil x room = omega arith

  free_room_cons : (x : List ℕ) (a : ℕ) (y : List ℕ) (room : ℕ)
      → free_room book x (a ∷ y) room ≡ free_room book (x ++ a ∷ []) y (room - length (at_byte x a))
  unfolding free_room
  free_room_cons x a y room = omega (arith, length-append (at_byte x a) (reports_after book (x ++ a ∷ []) y))

  -- The count follows the rule: each byte taken finds enough free room, and it stops where none remains or the room is too small.
  pub takes_is : (x part : List ℕ) (room : ℕ) → Takes book x part room (takes book x part room)
  unfolding takes
  takes_is x [] room = record { offered = omega arith; enough = λ k l. absurd (omega arith); stops = inl refl }
  takes_is x (a ∷ y) room = go (leb (length book.phrases) room) refl (takes book (x ++ a ∷ []) y left) (takes_is (x ++ a ∷ []) y left)
    where
      left : ℕ
      left = room - length (at_byte x a)

      go : (v : Bool) → leb (length book.phrases) room ≡ v → (n : ℕ) → Takes book (x ++ a ∷ []) y left n
          → Takes book x (a ∷ y) room (cond v (suc n) 0)
      go true e n r = record {
        offered = omega (arith, r.offered);
        enough = each;
        stops = ⊎_elim (λ (s : n ≡ length y). inl (ap suc s)) (λ s. inr (rw (free_room_cons x a (take n y) room) s)) r.stops;
      }
        where
          each : (k : ℕ) → k < suc n → length book.phrases ≤ free_room book x (take k (a ∷ y)) room
          each zero l = rw (free_room_nil x room) (leb-true _ _ e)
          each (suc k) l = rw (free_room_cons x a (take k y) room) (r.enough k (omega arith))
      go false e n r = record {
        offered = omega arith;
        enough = λ k l. absurd (omega arith);
        stops = inr (rw (free_room_nil x room) (leb-false _ _ e));
      }

  -- No other number of bytes is taken by the rule.
  pub takes_only : (x part : List ℕ) (room taken : ℕ) → Takes book x part room taken → taken ≡ takes book x part room
  takes_only x part room taken t = go (leb taken n) refl (leb n taken) refl
    where
      n : ℕ
      n = takes book x part room

      not_fewer : (k m : ℕ) → Takes book x part room k → Takes book x part room m → k < m → ⊥
      not_fewer k m s r l = ⊎_elim (λ (e : k ≡ length part). omega (arith, r.offered)) (λ f. omega (arith, r.enough k l)) s.stops

      go : (v : Bool) → leb taken n ≡ v → (w : Bool) → leb n taken ≡ w → taken ≡ n
      go true e true f = omega (arith, leb-true taken n e, leb-true n taken f)
      go true e false f = absurd (not_fewer taken n t (takes_is x part room) (leb-false n taken f))
      go false e w f = absurd (not_fewer n taken (takes_is x part room) t (leb-false taken n e))

  -- The reports of the bytes taken fit into the room.
  pub takes_fits : (x part : List ℕ) (room : ℕ) → length (reports_after book x (take (takes book x part room) part)) ≤ room
  unfolding takes reports_after
  takes_fits x [] room = omega arith
  takes_fits x (a ∷ y) room =
      go (leb (length book.phrases) room) refl (takes book (x ++ a ∷ []) y left) (takes_fits (x ++ a ∷ []) y left)
    where
      left : ℕ
      left = room - length (at_byte x a)

      go : (v : Bool) → leb (length book.phrases) room ≡ v → (n : ℕ) → length (reports_after book (x ++ a ∷ []) (take n y)) ≤ left
          → length (reports_after book x (take (cond v (suc n) 0) (a ∷ y))) ≤ room
      go true e n ih = omega (
        arith,
        length-append (at_byte x a) (reports_after book (x ++ a ∷ []) (take n y)),
        reports_at_few (x ++ a ∷ []) (suc (length x)),
        leb-true (length book.phrases) room e,
      )
      go false e n ih = omega arith
