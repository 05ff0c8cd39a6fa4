-- Windows counted in bytes: a window opens at one place, so the newest that has opened changes only where one opens.
-- Assumes nothing.
use mathlib.Core.Path.{◌≡◌, ap}
use mathlib.Core.Logic.{◌↔◌, ⊎_elim}
use mathlib.Core.Bool.{Bool, So, ◌&&◌}
use mathlib.Core.List.{List, [], ◌∷◌, ◌++◌}
use mathlib.Core.Option.{Option, none, some}
use Prim.Native.Nat.{ℕ, suc, ◌+◌, ◌-◌, ◌≤◌}
use native.Mathlib.Nat.{le-suc_iff}
use native.Mathlib.Omega.{arith}
use lib.ListN.{length, take, length-append}
use lib.Seq.{length-take-le}
use borrow.Author.Tests.{leb-true, le-leb}
use Rattle.meaning.specs.Books.{Gap, bounded, open_from, Piece}
use Rattle.meaning.specs.Matching.{Fills, Ends, ends}
use Rattle.meaning.specs.Windows.{latest, Latest, Holds, least_of, NotPast, measured, opened, newest, OpenAt, opens_at}
use Rattle.meaning.proofs.Truth.{both, and_left, and_right}
use Rattle.meaning.proofs.Latest.{latest_is, latest_one}
use Rattle.meaning.proofs.Windows.{window_iff}

module _ (letter : List ℕ) (piece : Piece) where
  -- The window from a previous end has opened by a place exactly when the place at which it opens is reached.
  pub opened_bytes : (place previous : ℕ) → place ≤ length letter
      → So (opened length letter piece place previous) ↔ (opens_at piece previous ≤ place)
  unfolding opened measured opens_at
  opened_bytes place previous l = (
    λ h. let a : previous + size ≤ place = leb-true _ _ (search (and_left)) in
        let b : began + least_of piece.gap ≤ here = leb-true _ _ (search (and_right)) in
        omega (arith, length-take-le previous letter (omega arith), length-take-le (place - size) letter (omega arith)),
    λ h. both _ _ (le-leb (previous + size) place (omega arith)) (le-leb (began + least_of piece.gap) here
        (omega (arith, length-take-le previous letter (omega arith), length-take-le (place - size) letter (omega arith)))),
  )
    where
      size : ℕ
      size = length piece.keyword

      began : ℕ
      began = length (take previous letter)

      here : ℕ
      here = length (take (place - size) letter)

module _ (letter : List ℕ) (pieces : List Piece) (piece : Piece) where
  -- An end of the pieces before, whose window has opened by a place.
  abbrev begins : ℕ → ℕ → Bool
  begins place previous = ends length letter 0 pieces previous && opened length letter piece place previous

  module _ (e : ℕ) (inside : suc e ≤ length letter) where
    -- A window that opens takes the place of the one before it.
    pub newest_new : (previous : ℕ) → opens_at piece previous ≡ suc e → So (ends length letter 0 pieces previous)
        → newest length letter pieces piece (suc e) ≡ some previous
    unfolding newest Latest opens_at
    newest_new previous h k = latest_one (begins (suc e)) (suc e) _ _ (latest_is (begins (suc e)) (suc e)) (
      both _ _ k ((opened_bytes letter piece (suc e) previous inside).1 (omega arith)),
      omega arith,
      λ d l g. omega (arith, (opened_bytes letter piece (suc e) d inside).0 (search (and_right))),
    )

    -- Where none opens, the newest stays.
    pub newest_old : ((previous : ℕ) → opens_at piece previous ≡ suc e → So (ends length letter 0 pieces previous) → ⊥)
        → newest length letter pieces piece (suc e) ≡ newest length letter pieces piece e
    unfolding newest Latest opens_at
    newest_old none_opens =
        latest_one (begins (suc e)) (suc e) _ _ (latest_is (begins (suc e)) (suc e)) (go (latest (begins e) e) (latest_is (begins e) e))
      where
        earlier : (d : ℕ) → So (begins (suc e) d) → (d ≤ e) × So (begins e d)
        earlier d g =
            let k : So (ends length letter 0 pieces d) = search (and_left) in
            ⊎_elim
            (λ (q : opens_at piece d ≤ e). (omega arith, both _ _ k ((opened_bytes letter piece e d (omega arith)).1 q)))
            (λ (q : opens_at piece d ≡ suc e). absurd (none_opens d q k))
            (le-suc_iff.0 ((opened_bytes letter piece (suc e) d inside).0 (search (and_right))))

        later : (d : ℕ) → So (begins e d) → So (begins (suc e) d)
        later d g =
            let ended : So (ends length letter 0 pieces d) = search (and_left) in
            let k : opens_at piece d ≤ e = (opened_bytes letter piece e d (omega arith)).0 (search (and_right)) in
            both _ _ ended ((opened_bytes letter piece (suc e) d inside).1 (omega arith))

        go : (o : Option ℕ) → Latest (begins e) e o → Latest (begins (suc e)) (suc e) o
        go none h = λ d l g. h d (earlier d g).0 (earlier d g).1
        go (some c) h = (later c h.0, omega arith, λ d l g. h.2 d (earlier d g).0 (earlier d g).1)

  -- The window from a previous end closes with that end, the keyword's length and most: so a closing place in bytes suffices.
  pub window_bytes : (place : ℕ)
      → Ends length letter 0 (pieces ++ piece ∷ []) place
      ↔ (Fills piece.keyword letter place
      × Holds (λ previous. NotPast piece.gap (previous + length piece.keyword) place) (newest length letter pieces piece place))
  unfolding newest Latest Holds NotPast measured OpenAt
  window_bytes place = (
    λ m. let r = (window_iff length letter length-append pieces piece place).0 m in (r.0, (same r.0).0 r.1),
    λ m. (window_iff length letter length-append pieces piece place).1 (m.0, (same m.0).1 m.1),
  )
    where
      size : ℕ
      size = length piece.keyword

      here : ℕ
      here = measured length letter (place - size)

      moved : (gap : Gap) (previous began : ℕ) → size ≤ place → began ≡ previous → here ≡ place - size
          → NotPast gap began here ↔ NotPast gap (previous + size) place
      moved (bounded least most) previous began l q r = (λ a. omega arith, λ a. omega arith)
      moved (open_from least) previous began l q r = (λ a. tt, λ a. tt)

      go : (o : Option ℕ) → Latest (begins place) place o → Fills piece.keyword letter place
          → Holds (λ c. NotPast piece.gap (measured length letter c) here) o ↔ Holds (λ c. NotPast piece.gap (c + size) place) o
      go none h f = (λ k. k, λ k. k)
      go (some c) h f =
          let i : place ≤ length letter = f.inside in
          let l : size ≤ place = omega (arith, simp length-append at (ap length f.split), length-take-le place letter i) in
          let r : here ≡ place - size = length-take-le (place - size) letter (omega arith) in
          moved piece.gap c (measured length letter c) l (length-take-le c letter (omega arith)) r

      same : Fills piece.keyword letter place
          → Holds (λ c. NotPast piece.gap (measured length letter c) here) (newest length letter pieces piece place)
          ↔ Holds (λ c. NotPast piece.gap (c + size) place) (newest length letter pieces piece place)
      same f = go (newest length letter pieces piece place) (latest_is (begins place) place) f
