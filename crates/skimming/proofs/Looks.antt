-- Places gone over in rest form: one place more comes to the same, and what holds before it holds after it.
-- Assumes nothing.
use mathlib.Core.Path.{◌≡◌, sym, ap, ap₂, ◌∙◌}
use mathlib.Core.Bool.{Bool, true, false, not}
use mathlib.Core.List.{List}
use Prim.Native.Nat.{ℕ, suc, ◌+◌, ◌-◌, ◌*◌, ◌≤◌, ◌<◌}
use native.Mathlib.Omega.{arith}
use lib.ListN.{get_or}
use Rattle.tables.specs.Layout.{room_for_states}
use Rattle.tables.specs.Reads.{gain_in}
use Rattle.gliding.specs.Glide.{quiet_at}
use Rattle.skimming.specs.Look.{Look, look_in, look_from}
use Rattle.skimming.specs.Infos.{States}
use Rattle.skimming.specs.Ready.{look_of, LookReady, LookKept, WayReady}
use Rattle.skimming.specs.declared.Looking.{Looking}

abbrev pub look : ℕ → ℕ → ℕ → ℕ → Bool → Look
look at left place gains event = record { at = at; left = left; place = place; gains = gains; event = event }

module _ (t m ahead : List ℕ) (at place gains : ℕ) where
  abbrev gained : ℕ
  gained = gains + gain_in t (get_or ahead at 0)

  pub step_quiet : (left : ℕ) → quiet_at t m (get_or ahead at 0) (place + 1) ≡ true
      → look_in t m ahead (suc left) at place gains ≡ look_in t m ahead left (at + 4) (place + 1) gained
  unfolding look_in
  step_quiet left q = rw q

  pub step_event : (left : ℕ) → quiet_at t m (get_or ahead at 0) (place + 1) ≡ false
      → look_in t m ahead (suc left) at place gains ≡ look (at + 4) left (place + 1) gained true
  unfolding look_in
  step_event left q = rw q

  decided : (left : ℕ) (quiet : Bool) → quiet_at t m (get_or ahead at 0) (place + 1) ≡ quiet
      → look_from t m ahead (look (at + 4) left (place + 1) gained (not quiet)) ≡ look_in t m ahead (suc left) at place gains
  unfolding look_from
  decided left true q = sym (step_quiet left q)
  decided left false q = sym (step_event left q)

  pub from_quiet : (left : ℕ) (event : Bool) → event ≡ false → look_from t m ahead (look at left place gains event) ≡ look_in t m ahead left at place gains
  unfolding look_from
  from_quiet left event still = rw still

  -- One place more: whether it is quiet there decides.
  pub one_place : (left : ℕ) (event : Bool) → event ≡ false → 0 < left → (state gain there : ℕ) (quiet : Bool) → state ≡ get_or ahead at 0 → gain ≡ gain_in t state
      → there ≡ place + 1 → quiet_at t m state there ≡ quiet
      → look_from t m ahead (look (at + 4) (left - 1) there (gains + gain) (not quiet)) ≡ look_from t m ahead (look at left place gains event)
  one_place left event still some state gain there quiet is e next q =
      let back : suc (left - 1) ≡ left = omega arith in
      ap₂ (λ (p g : ℕ). look_from t m ahead (look (at + 4) (left - 1) p (gains + g) (not quiet))) next (e ∙ ap (gain_in t) is)
      ∙ decided (left - 1) quiet (ap₂ (quiet_at t m) (sym is) (sym next) ∙ q)
      ∙ ap (λ (n : ℕ). look_in t m ahead n at place gains) back
      ∙ sym (from_quiet left event still)

-- The first of them is a state.
pub first_state : (ahead : List ℕ) (at left : ℕ) → States ahead at left → 0 < left → (state : ℕ) → state ≡ get_or ahead at 0 → state < room_for_states
first_state ahead at left states some state is =
    let here : at + 4 * 0 ≡ at = omega arith in
    rw (is, sym here) (states 0 some)

-- States from a later place on are states.
pub states_on : (ahead : List ℕ) (at left to less : ℕ) → States ahead at left → to + 4 * less ≡ at + 4 * left → less < left + 1 → States ahead to less
states_on ahead at left to less states same fewer i l =
    let there : at + 4 * (left - less + i) ≡ to + 4 * i = omega arith in
    rw there at (states (left - less + i) (omega arith))

pub kept_still : (from : Looking) → LookKept from from
kept_still from = record { at = omega arith; left = omega arith; place = omega arith; few_gains = omega arith }

pub kept_on : (from on to : Looking) → LookKept from on → LookKept on to → LookKept from to
kept_on from on to one two = record {
  at = omega (arith, one.at, two.at);
  left = omega (arith, one.left, two.left);
  place = omega (arith, one.place, two.place);
  few_gains = omega (arith, one.few_gains, two.few_gains);
}

-- So many places more were gone over, and each gained at most 128.
pub kept_further : (n : ℕ) (from to : Looking) → n ≤ from.left → to.at ≡ from.at + 4 * n → to.left ≡ from.left - n → to.place.0 ≡ from.place.0 + n
    → to.gains ≤ from.gains + 128 * n → LookKept from to
kept_further n from to some at left place gains = record { at = omega arith; left = omega arith; place = omega arith; few_gains = omega arith }

-- What is come to from there, and from there, is what is come to from the start.
pub same_on : (t m ahead : List ℕ) (from on to : Looking) → look_from t m ahead (look_of on) ≡ look_from t m ahead (look_of from)
    → look_from t m ahead (look_of to) ≡ look_from t m ahead (look_of on) → look_from t m ahead (look_of to) ≡ look_from t m ahead (look_of from)
same_on t m ahead from on to one two = two ∙ one

pub ready_on : (t m ahead : List ℕ) (from to : Looking) → LookReady t m ahead from → LookKept from to → to.event ≡ false → LookReady t m ahead to
ready_on t m ahead from to ready kept still = record {
  memory = ready.memory;
  states = states_on ahead from.at from.left to.at to.left ready.states kept.at (omega (arith, kept.left));
  room = omega (arith, ready.room, kept.at);
  near = omega (arith, ready.near, kept.at);
  early = omega (arith, ready.early, kept.place);
  few_gains = omega (arith, ready.few_gains, kept.few_gains);
  quiet = still;
}

-- Some place was gone over.
pub way_ready : (t m ahead : List ℕ) (bytes : ℕ) (from to : Looking) → LookReady t m ahead from → LookKept from to → to.left < from.left → from.left ≤ bytes → WayReady ahead bytes to
way_ready t m ahead bytes from to ready kept fewer all =
    record { some = omega (arith, kept.at); room = omega (arith, kept.at, ready.room); within = omega arith }

-- It goes no further where something happens, or where no byte is left.
module _ (t m ahead : List ℕ) (at left place gains : ℕ) (event : Bool) where
  pub settled_event : event ≡ true → look_from t m ahead (look at left place gains event) ≡ look at left place gains event
  unfolding look_from
  settled_event e = rw e

  pub settled_end : event ≡ false → left ≡ 0 → look_from t m ahead (look at left place gains event) ≡ look at left place gains event
  unfolding look_from
  settled_end e none = rw (e, none)
