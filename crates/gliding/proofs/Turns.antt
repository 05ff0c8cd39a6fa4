-- The quiet loop in rest form: what gliding over the rest of the part comes to from here is what it comes to from the start.
-- Assumes nothing.
use mathlib.Core.Path.{◌≡◌, refl, sym, ap, ap₂, ◌∙◌}
use mathlib.Core.Bool.{Bool, true, false, not, false≢true}
use mathlib.Core.List.{List, [], ◌∷◌}
use Prim.Native.Nat.{ℕ, suc, ◌+◌, ◌*◌, ◌≤◌, ◌<◌}
use native.Mathlib.Numerals.{add-one}
use native.Mathlib.Omega.{arith}
use lib.ListN.{length, get_or, drop}
use lib.Seq.{drop-cons, drop-length}
use borrow.Author.Tests.{not-true, not-false}
use Rattle.tables.specs.Reads.{state_count_in, dense_in, gain_in}
use Rattle.seeking.specs.Quick.{sought_in, quick_in}
use Rattle.seeking.proofs.Found.{quick_found, quick_stray}
use Rattle.gliding.specs.Glide.{Gone, further, quiet_at, goes_on, Glide, one_on, glide_in, glide_of, GlideKept}
use Rattle.gliding.specs.declared.Way.{Way}
use Rattle.gliding.specs.declared.Went.{Went}

-- ── One byte ──

module _ (t m : List ℕ) (gone : Gone) (byte : ℕ) where
  abbrev found : ℕ
  found = sought_in t (state_count_in t) (dense_in t) gone.state byte

  -- The way after the byte, put together from the next state and its gain.
  came : (state gain place : ℕ) → state ≡ quick_in t (state_count_in t) (dense_in t) gone.state byte → gain ≡ gain_in t state → place ≡ gone.place + 1
      → record { state = state; place = place; taken = gone.taken + 1; gains = gone.gains + gain } ≡ further t gone byte
  unfolding further
  came state gain place is e there = rw (e, there, is)

  -- Where the way goes on it is quiet.
  pub goes_quiet : goes_on t m gone byte ≡ true → quiet_at t m (further t gone byte).state (gone.place + 1) ≡ true
  unfolding goes_on
  goes_quiet e = e

  -- Whether it is quiet at the next state decides.
  goes_by : (state place : ℕ) (quiet : Bool) → state ≡ quick_in t (state_count_in t) (dense_in t) gone.state byte → place ≡ gone.place + 1
      → quiet_at t m state place ≡ quiet → goes_on t m gone byte ≡ quiet
  unfolding goes_on further
  goes_by state place quiet is there q = ap₂ (quiet_at t m) (sym is) (sym there) ∙ q

  one_on_lem : (gone₁ : Gone) (on : Bool) → gone₁ ≡ further t gone byte → goes_on t m gone byte ≡ on → record { gone = gone₁; event = not on } ≡ one_on t m gone byte
  unfolding one_on
  one_on_lem gone₁ on e g = ap₂ {C = Glide} (λ w v. record { gone = w; event = not v }) e (sym g)

  -- What is found for the byte decides.
  module _ (states dense : ℕ) (counted : states ≡ state_count_in t) (rows : dense ≡ dense_in t)
      (next : ℕ) (is : next ≡ sought_in t states dense gone.state byte) (place : ℕ) (there : place ≡ gone.place + 1) where
    sought : next ≡ found
    sought = is ∙ ap₂ (λ (n d : ℕ). sought_in t n d gone.state byte) counted rows

    abbrev after : ℕ → ℕ → Gone
    after state gain = record { state = state; place = place; taken = gone.taken + 1; gains = gone.gains + gain }

    -- The next state is known, and whether it is quiet there.
    module _ (to : ℕ) (quick : to ≡ quick_in t (state_count_in t) (dense_in t) gone.state byte) (state other gain : ℕ) (quiet : Bool)
        (reached : state ≡ to) (e : gain ≡ gain_in t state) (also : other ≡ to) (q : quiet_at t m other place ≡ quiet) where
      one_to : record { gone = after to gain; event = not quiet } ≡ one_on t m gone byte
      one_to = one_on_lem (after to gain) quiet (came to gain place quick (e ∙ ap (gain_in t) reached) there) (goes_by other place quiet (also ∙ quick) there q)

    -- It is no state: the byte leads to the root.
    pub one_stray : states ≤ next → (state other gain : ℕ) (quiet : Bool) → state ≡ 0 → gain ≡ gain_in t state → other ≡ 0 → quiet_at t m other place ≡ quiet
        → record { gone = after 0 gain; event = not quiet } ≡ one_on t m gone byte
    one_stray l =
        let far : state_count_in t ≤ found = omega (arith, sought) in
        one_to 0 (sym (quick_stray t (state_count_in t) (dense_in t) gone.state byte far))

    -- It is a state.
    pub one_found : next < states → (state other gain : ℕ) (quiet : Bool) → state ≡ next → gain ≡ gain_in t state → other ≡ next → quiet_at t m other place ≡ quiet
        → record { gone = after next gain; event = not quiet } ≡ one_on t m gone byte
    one_found l =
        let near : found < state_count_in t = omega (arith, sought) in
        one_to next (sought ∙ sym (quick_found t (state_count_in t) (dense_in t) gone.state byte near))

  -- ── Gliding on from the byte ──

  pub on_goes : (one_on t m gone byte).event ≡ false → goes_on t m gone byte ≡ true
  unfolding one_on
  on_goes e = not-false (goes_on t m gone byte) e

  pub glide_stops : (rest : List ℕ) → (one_on t m gone byte).event ≡ true → glide_in t m (byte ∷ rest) gone ≡ one_on t m gone byte
  unfolding glide_in one_on
  glide_stops rest e = rw (not-true (goes_on t m gone byte) e)

  pub glide_on : (rest : List ℕ) → (one_on t m gone byte).event ≡ false → glide_in t m (byte ∷ rest) gone ≡ glide_in t m rest (one_on t m gone byte).gone
  unfolding glide_in one_on
  glide_on rest e = rw (on_goes e)

-- ── The loop ──

-- What stays true while bytes are taken: of a part, from one place on, towards where gliding ends.
pub record Gliding (t m part : List ℕ) (from : Gone) (whole : Glide) (gone : Gone) : Type 0 where
  pub within : gone.taken ≤ length part
  pub onward : from.taken ≤ gone.taken
  pub inside : gone.state < state_count_in t
  pub early : gone.place + from.taken ≡ from.place + gone.taken
  pub few_gains : gone.gains ≤ 128 * gone.taken
  pub rest : glide_in t m (drop gone.taken part) gone ≡ whole

-- A way is kept where it has gone as far as these numbers say.
pub kept_by : (t part : List ℕ) (first : Way) (to : Went) (gone : Gone) (event : Bool) → glide_of to ≡ record { gone = gone; event = event }
    → gone.state < state_count_in t → gone.taken ≤ length part → first.taken ≤ gone.taken → (event ≡ true → first.taken < gone.taken)
    → gone.place + first.taken ≡ first.place.0 + gone.taken → gone.gains ≤ 128 * gone.taken → GlideKept t part first to
kept_by t part first to gone event is inside within onward more early few =
    let taken : to.way.taken ≡ gone.taken = ap (λ (g : Glide). g.gone.taken) is in
    let place : to.way.place.0 ≡ gone.place = ap (λ (g : Glide). g.gone.place) is in
    record {
      inside = omega (arith, ap (λ (g : Glide). g.gone.state) is);
      within = omega arith;
      onward = omega arith;
      more = λ e. omega (arith, more (sym (ap (λ (g : Glide). g.event) is) ∙ e));
      early = omega arith;
      few_gains = omega (arith, ap (λ (g : Glide). g.gone.gains) is);
    }

module _ (t m part : List ℕ) where
  pub gliding_start : (from : Gone) → from.taken ≤ length part → from.state < state_count_in t → from.gains ≤ 128 * from.taken
      → Gliding t m part from (glide_in t m (drop from.taken part) from) from
  gliding_start from within inside few =
      record { within = within; onward = omega arith; inside = inside; early = omega arith; few_gains = few; rest = refl }

  module _ (from gone : Gone) (whole : Glide) (g : Gliding t m part from whole gone) where
    pub gliding_end : length part ≤ gone.taken → record { gone = gone; event = false } ≡ whole
    unfolding glide_in
    gliding_end end =
        let all : gone.taken ≡ length part = omega (arith, g.within) in
        sym (stopped (drop gone.taken part) (ap (λ (k : ℕ). drop k part) all ∙ drop-length part)) ∙ g.rest
      where
        stopped : (y : List ℕ) → y ≡ [] → glide_in t m y gone ≡ record { gone = gone; event = false }
        stopped y e = rw e

    -- The loop ends where no byte is left.
    pub end_kept : (first : Way) (to : Went) → first.taken ≡ from.taken → first.place.0 ≡ from.place → glide_of to ≡ record { gone = gone; event = false } → GlideKept t part first to
    end_kept first to taken place is =
        kept_by t part first to gone false is g.inside g.within (omega (arith, g.onward)) (λ e. absurd (false≢true e)) (omega (arith, g.early)) g.few_gains

    -- One byte more.
    module _ (more : gone.taken < length part) (to : Glide) (is : to ≡ one_on t m gone (get_or part gone.taken 0)) where
      abbrev byte : ℕ
      byte = get_or part gone.taken 0

      onward : glide_in t m (byte ∷ drop (suc gone.taken) part) gone ≡ whole
      onward = ap (λ (l : List ℕ). glide_in t m l gone) (sym (drop-cons part gone.taken 0 more)) ∙ g.rest

      -- The way does not go on: gliding ends here.
      pub turn_stop : to.event ≡ true → to ≡ whole
      turn_stop e = is ∙ sym (glide_stops t m gone byte (drop (suc gone.taken) part) (sym (ap (λ (h : Glide). h.event) is) ∙ e)) ∙ onward

      pub stop_kept : to.gone.state < state_count_in t → to.gone.place ≡ gone.place + 1 → to.gone.taken ≡ gone.taken + 1 → to.gone.gains ≤ 128 * to.gone.taken
          → (first : Way) (last : Went) → first.taken ≡ from.taken → first.place.0 ≡ from.place → glide_of last ≡ to → GlideKept t part first last
      stop_kept inside place taken few first last same there e =
          kept_by t part first last to.gone to.event e inside (omega arith) (omega (arith, g.onward)) (λ z. omega (arith, g.onward)) (omega (arith, g.early)) few

      -- It goes on.
      pub turn_on : to.event ≡ false → to.gone.state < state_count_in t → to.gone.place ≡ gone.place + 1 → to.gone.taken ≡ gone.taken + 1
          → to.gone.gains ≤ 128 * to.gone.taken → Gliding t m part from whole to.gone
      turn_on e inside place taken few = record {
        within = omega arith;
        onward = omega (arith, g.onward);
        inside = inside;
        early = omega (arith, g.early);
        few_gains = few;
        rest = ap₂ (λ (k : ℕ) (w : Gone). glide_in t m (drop k part) w) (taken ∙ add-one gone.taken) (ap (λ (h : Glide). h.gone) is)
            ∙ sym (glide_on t m gone byte (drop (suc gone.taken) part) (sym (ap (λ (h : Glide). h.event) is) ∙ e)) ∙ onward;
      }
